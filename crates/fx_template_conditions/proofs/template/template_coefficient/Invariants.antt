use Rattle.std.proofs.Common.{◌+◌}
use Rattle.fx_inequalities.specs.Formula.{Product}
use Rattle.fx_inequalities.specs.Affine.{sum_of}
use Rattle.fx_formulas.specs.Judging.{Forms}
use Rattle.fx_template_conditions.specs.CertificateSide.{form_on, templates_on}
use Rattle.fx_template_conditions.proofs.template.template_coefficient.Given as goal

abbrev pub invariant-loop-s : goal.invariant-loop-s
invariant-loop-s l =
    Forms l.total (sum_of l.s (λ s. Product ((templates_on l.fn.side).coef l.fn.i s)
    ((form_on l.fn.side (l.fn.next + s)).coef l.fn.j)))
