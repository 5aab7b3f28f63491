use Rattle.std.proofs.Common.{ℕ, ◌<◌}
use Rattle.fx_inequalities.specs.Formula.{Formula, Span}
use Rattle.fx_inequalities.specs.Affine.{weighted_sum}
use Rattle.fx_formulas.specs.Judging.{FormsSpan}
use Rattle.fx_formulas.specs.Places.{IsShort}
use Rattle.fx_template_conditions.specs.CertificateSide.{templates_on}
use Rattle.fx_template_conditions.specs.Coefficients.{AreLeft}
use Rattle.fx_template_conditions.proofs.bound.with_states.Given as goal

abbrev pub invariant-loop-k : goal.invariant-loop-k
invariant-loop-k l = (c : ℕ → Formula) (z : Span) → AreLeft l.fn.lefts l.fn.side.inputs l.fn.side.states c →
    ((k : ℕ) → k < l.fn.side.states → IsShort 192 (c k)) → FormsSpan l.fn.start z →
    FormsSpan l.total (weighted_sum z l.k c (templates_on l.fn.side).bound)
