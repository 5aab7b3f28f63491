use Rattle.std.proofs.Common.{◌≡◌, subst}
use Rattle.fx_rational.specs.Rational.{Rational, lowest}
use Rattle.fx_fraction.proofs.Lowest.{reduced_is}
use Rattle.fx_fraction.proofs.fraction.Fraction.keeps.Goals as goal

pub returns : goal.returns
returns c =
    subst (λ (r : Rational). r ≡ lowest r) c.self.view_is (reduced_is c.self.inside.p c.self.inside.q c.self.invariant)
