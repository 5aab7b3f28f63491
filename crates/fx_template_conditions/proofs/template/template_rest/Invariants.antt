use Rattle.std.proofs.Common.{◌+◌}
use Rattle.fx_inequalities.specs.Formula.{zero_span}
use Rattle.fx_inequalities.specs.Affine.{weighted_sum}
use Rattle.fx_formulas.specs.Judging.{FormsSpan}
use Rattle.fx_cert.specs.Sides.{side_rest}
use Rattle.fx_template_conditions.specs.CertificateSide.{form_on, templates_on}
use Rattle.fx_template_conditions.proofs.template.template_rest.Given as goal

abbrev pub invariant-loop-s : goal.invariant-loop-s
invariant-loop-s l =
    FormsSpan l.total (weighted_sum zero_span l.s ((templates_on l.fn.side).coef l.fn.i)
    (λ s. side_rest l.fn.side.which (form_on l.fn.side (l.fn.next + s))))
