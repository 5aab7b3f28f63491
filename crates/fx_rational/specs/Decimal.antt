-- Decimals a / 10^b.
use Rattle.std.specs.Prelude.{ℕ, ◌^◌, ◌<◌, ◌≤◌, ◌%◌, ℤ, unsigned_abs, Bool, ◌&&◌}
use Rattle.fx_rational.specs.Rational.{Rational, over, scaled, floor, plus, minus, is_at_most}

-- a / 10^b
pub record Decimal : Type 0 where
  pub a : ℤ
  pub b : ℕ

-- its value
unfoldable pub decimal_value : Decimal → Rational
decimal_value d = over d.a (10 ^ d.b)

-- within the limits, and with the fewest digits after the point
pub record IsDecimal (a : ℤ) (b : ℕ) : Type 0 where
  pub small : unsigned_abs a < 2 ^ 62
  pub places : b ≤ 18
  pub fewest : 0 < b → 0 < unsigned_abs a % 10

-- the floor of d * 2^f
unfoldable pub quantised : Decimal → ℤ → ℤ
quantised d f = floor (scaled (decimal_value d) f)

-- lo - err <= g <= hi + err
unfoldable pub is_within : Decimal → Decimal → Decimal → Decimal → Bool
is_within g lo hi err =
    is_at_most (minus (decimal_value lo) (decimal_value err)) (decimal_value g) &&
    is_at_most (decimal_value g) (plus (decimal_value hi) (decimal_value err))
