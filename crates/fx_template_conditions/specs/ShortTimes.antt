-- How many times a template is taken, in 64 bits.
use Rattle.std.specs.Prelude.{◌≡◌, ◌*◌, ◌^◌, ◌≤◌, unsigned_abs}
use Rattle.fx_rational.specs.Dyadic.{Dyadic}
use Rattle.fx_template_conditions.specs.declared.quick.ShortTimes.{ShortTimes}

-- raised by its room it stays within 2^62
pub record HasRoom (t : ShortTimes) : Type 0 where
  pub few : t.room ≤ 62
  pub near : unsigned_abs t.mantissa * 2 ^ t.room ≤ 2 ^ 62
  pub places : t.exponent ≤ 2 ^ 20

-- they are this number
pub record AreTimes (t : ShortTimes) (a : Dyadic) : Type 0 where
  pub mantissa : t.mantissa ≡ a.m
  pub exponent : t.exponent ≡ a.e
