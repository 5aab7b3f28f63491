-- Fractions within the limits of the code.
use Rattle.std.specs.Prelude.{◌^◌, ◌<◌, ◌≤ℤ◌, ℤ, pos, unsigned_abs, Option, SomeIff}
use Rattle.std.specs.Int.{IsGcd}
use Rattle.fx_rational.specs.Rational.{Rational, bottom, lowest}

-- p / q in lowest terms, |p| and q below 2^62, q above zero
pub record IsFraction (p q : ℤ) : Type 0 where
  pub above : pos 1 ≤ℤ q
  pub top_small : unsigned_abs p < 2 ^ 62
  pub bottom_small : unsigned_abs q < 2 ^ 62
  pub coprime : IsGcd (unsigned_abs p) (unsigned_abs q) 1

-- a rational as it's spelled keeps these limits
pub record FitsFraction (r : Rational) : Type 0 where
  pub top : unsigned_abs r.top < 2 ^ 62
  pub bottom : bottom r < 2 ^ 62

-- r in lowest terms exactly where that keeps the limits, and none where it doesn't
abbrev pub GivesLowest : Option Rational → Rational → Type 0
GivesLowest result r = SomeIff result (FitsFraction (lowest r)) (lowest r)
