-- Grid e are the dyadics with at most e binary places, in lowest terms.
use Rattle.std.specs.Prelude.{ℕ, zero, suc, ◌+◌, ◌-◌, ◌^◌, ◌%◌, ◌==◌, ltb, unsigned_abs, ℤ, pos, negsuc, Bool, if◌then◌else◌}
use Rattle.fx_rational.specs.Rational.{Rational, bottom, scaled, floor_div, ceil_div}
use Rattle.fx_rational.specs.Dyadic.{Dyadic}

-- it has half
abbrev pub is_even : ℤ → Bool
is_even m = unsigned_abs m % 2 == 0

-- m / 2^e in lowest terms
unfoldable pub lowest_dyadic : ℤ → ℕ → Dyadic
lowest_dyadic m zero = record { m = m; e = 0 }
lowest_dyadic m (suc e) = if is_even m then lowest_dyadic (floor_div m 2) e else record { m = m; e = suc e }

-- the greatest of grid e that isn't above x, and the least that isn't below
unfoldable pub grid_down : ℕ → Rational → Dyadic
grid_down e x = let y = scaled x (pos e) in lowest_dyadic (floor_div y.top (bottom y)) e

unfoldable pub grid_up : ℕ → Rational → Dyadic
grid_up e x = let y = scaled x (pos e) in lowest_dyadic (ceil_div y.top (bottom y)) e

-- a mantissa of 62 bits
abbrev pub is_small : Dyadic → Bool
is_small d = ltb (unsigned_abs d.m) (2 ^ 62)

-- the grid of the errors at a point: eight binary places more than those of the point
abbrev pub error_grid : ℤ → ℕ
error_grid (pos f) = f + 8
error_grid (negsuc f) = 7 - f
