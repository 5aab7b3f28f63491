use Rattle.std.proofs.Common.{ap, ◌∙◌}
use Rattle.fx_rational.specs.Rational.{negative}
use Rattle.fx_formulas.proofs.LowestTerms.{lowest_negative}
use Rattle.fx_formulas.proofs.formula.opposite.Goals as goal

pub returns : goal.returns
returns c = λ r e. c.fneg.ensures ∙ ap negative e ∙ lowest_negative r
