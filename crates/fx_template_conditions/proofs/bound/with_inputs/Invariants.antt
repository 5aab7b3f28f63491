use Rattle.std.proofs.Common.{ℕ, ◌≤◌}
use Rattle.fx_inequalities.specs.Formula.{Formula, Span}
use Rattle.fx_inequalities.specs.Affine.{weighted_sum}
use Rattle.fx_formulas.specs.Judging.{FormsSpan}
use Rattle.fx_template_conditions.specs.CertificateSide.{spans_on}
use Rattle.fx_template_conditions.specs.Coefficients.{AreFormed}
use Rattle.fx_template_conditions.proofs.bound.with_inputs.Given as goal

abbrev pub invariant-loop-j : goal.invariant-loop-j
invariant-loop-j l = (n : ℕ) (c : ℕ → Formula) (z : Span) → l.fn.side.inputs ≤ n → AreFormed l.fn.coefs n c →
    FormsSpan l.fn.start z → FormsSpan l.total (weighted_sum z l.j c (spans_on l.fn.side))
