use Rattle.fx_rational.specs.Dyadic.{zero_dyadic}
use Rattle.fx_model.specs.Tree.{at}
use Rattle.fx_inequalities.specs.Formula.{Num}
use Rattle.fx_template_conditions.specs.Coefficients.{AreFormed}
use Rattle.fx_template_conditions.proofs.bound.form_coefs.Given as goal

abbrev pub invariant-loop-j : goal.invariant-loop-j
invariant-loop-j l = AreFormed l.coefs l.j (λ j. Num (at zero_dyadic l.fn.form.coefs j))
