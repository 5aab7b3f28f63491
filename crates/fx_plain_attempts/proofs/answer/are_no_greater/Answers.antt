use Rattle.std.proofs.Common.{◌≡◌, ◌∙◌, ◌<◌, true, false, ap₂, sym, arith}
use Rattle.std.proofs.Math.Nat.{min-le_right}
use Rattle.fx_rational.specs.Rational.{AtMost}
use Rattle.fx_rational.specs.Dyadic.{is_dyadic_at_most}
use Rattle.fx_rational.proofs.Tests.{at_most_true, at_most_test}
use Rattle.fx_inequalities.specs.Accepted.{bound_dyadic, certified_bound}
use Rattle.fx_plain_attempts.proofs.Better.{next_below}
use Rattle.fx_plain_attempts.proofs.answer.are_no_greater.Goals as goal
use Rattle.fx_model.specs.Function.{outputs}

pub returns-then-not-dle : goal.returns-then-not-dle
returns-then-not-dle c =
    let a = c.args.a.now in let b = c.args.b.now in let j = c.loop-j.j in
    let test : is_dyadic_at_most (bound_dyadic a.program a.certificate j) (bound_dyadic b.program b.certificate j)
    ≡ false =
    sym (ap₂ is_dyadic_at_most c.bound.ensures.value c.bound-in-loop-j.ensures.value) ∙ sym c.dle.ensures
    ∙ (let e = c.if-not-dle.true in cc) in
    let below : j < outputs b.function = let l = c.loop-j-test.true in let e = c.min-outputs.ensures in
    let m = min-le_right c.outputs_of.result c.outputs_of-2.result in
    let d = c.outputs_of-2.ensures.count in
    omega (arith, l, e, m, d) in (
      λ t. absurd cc,
      λ h. absurd
          (let yes_test = (at_most_test (certified_bound a.program a.certificate j)
          (certified_bound b.program b.certificate j)).1 (h j below) in let z = sym test ∙ yes_test in cc),
    )

pub loop-j-preserved : goal.loop-j-preserved
loop-j-preserved c =
    let a = c.args.a.now in let b = c.args.b.now in let j = c.loop-j.j in
    let test : is_dyadic_at_most (bound_dyadic a.program a.certificate j) (bound_dyadic b.program b.certificate j)
    ≡ true =
    sym (ap₂ is_dyadic_at_most c.bound.ensures.value c.bound-in-loop-j.ensures.value) ∙ sym c.dle.ensures
    ∙ (let e = c.if-not-dle.false in cc) in
    next_below (λ k. AtMost (certified_bound a.program a.certificate k)
    (certified_bound b.program b.certificate k)) j c.loop-j.invariant (at_most_true _ _ test)
