use Rattle.std.proofs.Common.{ℕ, ◌+◌, ◌<◌, ◌≤◌, None}
use Rattle.fx_rational.specs.Dyadic.{zero_dyadic}
use Rattle.fx_model.specs.Tree.{at}
use Rattle.fx_inequalities.specs.Formula.{Formula, Num, Difference, Product}
use Rattle.fx_formulas.specs.Judging.{Forms}
use Rattle.fx_template_conditions.specs.Coefficients.{AreLeft}
use Rattle.fx_template_conditions.proofs.bound.take_template.Given as goal

abbrev pub invariant-loop-k : goal.invariant-loop-k
invariant-loop-k l = (c : ℕ → Formula) → AreLeft l.fn.coefs l.fn.side.inputs l.fn.side.states c →
    (AreLeft l.coefs l.fn.side.inputs l.k
    (λ i. Difference (c i) (Product (Num l.fn.times) (Num (at zero_dyadic l.fn.template i))))) × ((i : ℕ) →
    l.k ≤ i → i < l.fn.side.states → Forms (at None l.coefs (l.fn.side.inputs + i)) (c i))
