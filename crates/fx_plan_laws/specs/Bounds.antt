-- Bounds of a node as two whole numbers, which count units of the point: those of inputs, states, literals, sums and
-- products.
use Rattle.std.specs.Prelude.{ℕ, ◌+◌, ◌-◌, ◌*◌, ◌^◌, ◌/◌, unsigned_abs, pos, ◌+ℤ◌}
use Rattle.fx_rational.specs.Rational.{Rational, bottom, scaled, ceil_div}
use Rattle.fx_model.specs.Function as function
use Rattle.fx_plan_laws.specs.Powers.{magnitude}
use Rattle.fx_plan_laws.specs.Calm.{Numbers, reach_of}

-- the value lies from -r to r units 2^-f, the word's value less the exact one from -e to e
pub record Bound : Type 0 where
  pub r : ℕ
  pub e : ℕ

abbrev pub no_bound : Bound
no_bound = record { r = 0; e = 0 }

-- the least whole number of units that isn't below x, for x of no sign
unfoldable pub units_up : ℕ → Rational → ℕ
units_up f x = unsigned_abs (ceil_div (scaled x (pos f)).top (bottom x))

-- n / 2^f, upward
unfoldable pub shifted_up : ℕ → ℕ → ℕ
shifted_up f n = (n + (2 ^ f - 1)) / 2 ^ f

-- the error of a state is at most 2^(p + v + 4): the exponent of that in units
abbrev pub error_box : Numbers → ℕ
error_box c = unsigned_abs (pos (c.p + 4 + c.f) +ℤ c.v)

abbrev pub state_bound : Numbers → Bound
state_bound c = record { r = 2 ^ (c.q + 2 + c.f); e = 2 ^ error_box c }

-- a unit more, which the reading of a row may lose
abbrev pub input_bound : ℕ → function.Input → Bound
input_bound f i = record { r = units_up f (reach_of i); e = units_up f i.err + 1 }

abbrev pub const_bound : ℕ → Rational → Bound
const_bound f x = record { r = units_up f (magnitude x); e = 1 }

abbrev pub sum_bound : Bound → Bound → Bound
sum_bound a b = record { r = a.r + b.r; e = a.e + b.e }

-- rounded upward, and a unit more that the shift may lose
abbrev pub product_bound : ℕ → Bound → Bound → Bound
product_bound f a b = record { r = shifted_up f (a.r * b.r); e = shifted_up f (a.r * b.e + b.r * a.e + a.e * b.e) + 1 }
