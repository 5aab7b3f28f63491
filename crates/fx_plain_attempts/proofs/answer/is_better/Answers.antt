use Rattle.std.proofs.Common.{◌≤◌, subst}
use Rattle.fx_model.specs.Function.{Function, outputs}
use Rattle.fx_plain_attempts.specs.Bounds.{attempted, AreNoGreater}
use Rattle.fx_plain_attempts.proofs.Better.{no_greater, not_smaller}
use Rattle.fx_plain_attempts.proofs.answer.is_better.Goals as goal

pub returns-then-are_no_greater-clause-left : goal.returns-then-are_no_greater-clause-left
returns-then-are_no_greater-clause-left c =
    let a = c.args.a.now in let b = c.args.b.now in
    let least : AreNoGreater b.function (attempted b) (attempted a) =
    subst (λ f. AreNoGreater f (attempted b) (attempted a)) c.requires
    (c.are_no_greater.ensures.0 c.if-are_no_greater.true) in
    let some : 1 ≤ outputs b.function =
    subst (λ (f : Function). 1 ≤ outputs f) c.function.ensures c.keeps.ensures.sizes.some_output in
    λ e. not_smaller b.function (attempted a) (attempted b) some least

pub returns-clause-left : goal.returns-clause-left
returns-clause-left c =
    λ e smaller. absurd (let t = c.are_no_greater-2.ensures.1
    (no_greater c.args.b.now.function (attempted c.args.a.now) (attempted c.args.b.now) smaller) in cc)
