use Rattle.fx_formulas.specs.Judging.{FormsSpan}
use Rattle.fx_template.specs.AffineView.{linear_form}
use Rattle.fx_template.specs.Combining.{bound_form}
use Rattle.fx_template.proofs.bound.aff_bound.Given as goal

abbrev pub invariant-loop-j : goal.invariant-loop-j
invariant-loop-j l = FormsSpan l.total (bound_form (linear_form l.fn.a) l.j l.fn.ranges)
