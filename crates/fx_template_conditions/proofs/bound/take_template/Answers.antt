use Rattle.std.proofs.Common.{ℕ, ◌+◌, ◌<◌, ◌≤◌, length, List, Option, Some, None, IfSome, set, subst, sym, arith, rules}
use Rattle.fx_rational.specs.Dyadic.{Dyadic, zero_dyadic}
use Rattle.fx_model.specs.Tree.{at}
use Rattle.fx_inequalities.specs.Formula.{Num, Difference, Product}
use Rattle.fx_formulas.specs.Judging.{Forms}
use Rattle.fx_template_conditions.specs.Coefficients.{AreLeft}
use Rattle.fx_template_conditions.proofs.Shares.{set_left}
use Rattle.fx_template_conditions.proofs.bound.take_template.Goals as goal
use Rattle.fx_template_conditions.proofs.bound.take_template.Goals.{in-Some, in-None}

pub loop-k-preserved : goal.loop-k-preserved
loop-k-preserved c = λ f left.
    let s = c.args.side.now in let i = s.inputs in let n = s.states in let k = c.loop-k.k in let xs = c.loop-k.coefs in
    let d = λ (j : ℕ). Difference (f j) (Product (Num c.args.times) (Num (at zero_dyadic c.args.template.now j))) in
    let taken = λ (ys : List (Option Dyadic)). AreLeft ys i (k + 1) d × ((j : ℕ) → k + 1 ≤ j → j < n →
    Forms (at None ys (i + j)) (f j)) in
    let same = sym c.inputs-inputs.ensures in
    let there : c.inputs-inputs.result + k < length xs = search rules in
    let room : i + k < length xs = omega (arith, c.inputs-inputs.ensures, there) in
    let within : k < n = omega (arith, c.loop-k-test.true, c.states-k-end.ensures) in
    let before = c.loop-k.invariant f left in
    let number = subst (λ (m : ℕ). Forms (at None xs (m + k)) (f k)) same (before.1 k (omega arith) within) in
    elim c.match-quick_left.branch [
      | in-Some w ↦ (
          let quick =
          subst (λ (o : Option Dyadic). IfSome o (λ x. Forms (Some x) (d k))) w.in-Some.is
          (c.quick_left.ensures c.args.times (f k) c.keeps-2.ensures c.short_times-short.ensures.is number) in
          subst taken (sym w.coefs-is)
          (subst (λ (m : ℕ). taken (set xs (m + k) (Some w.in-Some.quick))) same
          (set_left xs i n k f d (Some w.in-Some.quick) room before.0 before.1 quick)))
      | in-None w ↦ (
          let any = w.left_of.ensures (f k) number in
          subst taken (sym w.coefs-is)
          (subst (λ (m : ℕ). taken (set xs (m + k) w.left_of.result)) same
          (set_left xs i n k f d w.left_of.result room before.0 before.1 any)))
    ]
