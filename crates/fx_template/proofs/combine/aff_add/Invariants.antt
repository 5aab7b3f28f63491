use Rattle.fx_template.specs.AffineView.{linear_form}
use Rattle.fx_template.specs.Combining.{sum_form}
use Rattle.fx_template.proofs.Fronts.{IsFront}
use Rattle.fx_template.proofs.combine.aff_add.Given as goal

abbrev pub invariant-loop-j : goal.invariant-loop-j
invariant-loop-j l = IsFront l.coefs l.j (sum_form (linear_form l.fn.a) (linear_form l.fn.b)).coef
