-- What the spelling in lowest terms is.
use Rattle.std.specs.Prelude.{◌≡◌}
use Rattle.fx_rational.specs.Gcd.{IsLowest}
use Rattle.fx_rational.specs.Rational.{Rational, bottom, Equal, lowest}

-- `lowest r` is the same number in lowest terms, no other spelling of that number is, and equal numbers have the same
-- one
pub record LowestLaw : Type 0 where
  pub same : (r : Rational) → Equal (lowest r) r
  pub reduced : (r : Rational) → IsLowest (lowest r).top (bottom (lowest r))
  pub only : (r s : Rational) → Equal s r → IsLowest s.top (bottom s) → s ≡ lowest r
  pub of_equals : (r s : Rational) → Equal r s → lowest r ≡ lowest s
