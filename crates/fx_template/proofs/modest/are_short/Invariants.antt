use Rattle.std.proofs.Common.{ℕ, ◌<◌}
use Rattle.fx_rational.specs.Dyadic.{zero_dyadic}
use Rattle.fx_model.specs.Tree.{at}
use Rattle.fx_inequalities.specs.Formula.{Num}
use Rattle.fx_formulas.specs.Places.{IsShort}
use Rattle.fx_template.proofs.modest.are_short.Given as goal

abbrev pub invariant-loop-j : goal.invariant-loop-j
invariant-loop-j l = (k : ℕ) → k < l.j → IsShort 96 (Num (at zero_dyadic l.fn.coefs k))
