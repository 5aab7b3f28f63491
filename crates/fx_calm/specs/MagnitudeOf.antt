-- What contracts see of a magnitude.
use Rattle.std.specs.Prelude.{pos, ◌<◌, ◌^◌}
use Rattle.fx_rational.specs.Rational.{Rational, over}
use Rattle.fx_calm.specs.declared.magnitude.Magnitude.{Magnitude}

-- a numerator and a denominator of 62 bits, the latter above zero
pub record IsMagnitude (x : Magnitude) : Type 0 where
  pub some : 0 < x.bottom
  pub few : x.bottom < 2 ^ 62
  pub short : x.top < 2 ^ 62

-- its value
abbrev pub magnitude_value : Magnitude → Rational
magnitude_value x = over (pos x.top) x.bottom
