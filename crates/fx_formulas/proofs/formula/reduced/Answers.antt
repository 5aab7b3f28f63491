use Rattle.std.proofs.Common.{◌≡◌, subst}
use Rattle.fx_rational.specs.Rational.{Rational, lowest}
use Rattle.fx_fraction.proofs.Lowest.{reduced_is}
use Rattle.fx_formulas.proofs.formula.reduced.Goals as goal

pub returns : goal.returns
returns c = subst (λ (r : Rational). r ≡ lowest r) c.c.view_is (reduced_is c.c.inside.p c.c.inside.q c.c.invariant)
