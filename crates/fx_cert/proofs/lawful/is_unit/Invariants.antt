use Rattle.std.proofs.Common.{◌≡◌, ℕ, ◌<◌}
use Rattle.fx_rational.specs.Dyadic.{zero_dyadic}
use Rattle.fx_model.specs.Tree.{at}
use Rattle.fx_inequalities.specs.Formula.{Num}
use Rattle.fx_inequalities.specs.Affine.{unit_coef}
use Rattle.fx_cert.proofs.lawful.is_unit.Given as goal

abbrev pub invariant-loop-j : goal.invariant-loop-j
invariant-loop-j l = (k : ℕ) → k < l.j → Num (at zero_dyadic l.fn.coefs k) ≡ unit_coef l.fn.i k
