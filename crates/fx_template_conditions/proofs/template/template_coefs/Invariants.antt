use Rattle.std.proofs.Common.{◌+◌}
use Rattle.fx_inequalities.specs.Formula.{Product}
use Rattle.fx_inequalities.specs.Affine.{sum_of}
use Rattle.fx_template_conditions.specs.CertificateSide.{form_on, templates_on}
use Rattle.fx_template_conditions.specs.Coefficients.{AreFormed}
use Rattle.fx_template_conditions.proofs.template.template_coefs.Given as goal

abbrev pub invariant-loop-j : goal.invariant-loop-j
invariant-loop-j l =
    AreFormed l.coefs l.j (λ j. sum_of l.fn.side.states
    (λ s. Product ((templates_on l.fn.side).coef l.fn.i s) ((form_on l.fn.side (l.fn.next + s)).coef j)))
