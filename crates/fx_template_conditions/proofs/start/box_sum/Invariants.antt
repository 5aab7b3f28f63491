use Rattle.fx_inequalities.specs.Formula.{zero_span}
use Rattle.fx_inequalities.specs.Affine.{weighted_sum}
use Rattle.fx_formulas.specs.Judging.{FormsSpan}
use Rattle.fx_cert.specs.CertificateView.{boxes_in}
use Rattle.fx_template_conditions.specs.Boxes.{box_at}
use Rattle.fx_template_conditions.specs.CertificateSide.{templates_on}
use Rattle.fx_template_conditions.proofs.start.box_sum.Given as goal

abbrev pub invariant-loop-s : goal.invariant-loop-s
invariant-loop-s l =
    FormsSpan l.total (weighted_sum zero_span l.s ((templates_on l.fn.side).coef l.fn.i)
    (box_at l.fn.side.which (boxes_in l.fn.starts)))
