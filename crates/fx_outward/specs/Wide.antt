-- What contracts see of a division with more than 128 bits. No clause of a public call rests on this.
use Rattle.std.specs.Prelude.{◌≡◌, ℕ, suc, ◌-◌, ◌*◌, ◌^◌, ℤ, pos, negsuc, Option, Some, None, false}
use Rattle.fx_rational.specs.Dyadic.{Dyadic}
use Rattle.fx_outward.specs.Grid.{is_small}

-- this end, or none only where its mantissa has more than 62 bits
abbrev pub IsEnd : Option Dyadic → Dyadic → Type 0
IsEnd None x = is_small x ≡ false
IsEnd (Some y) x = y ≡ x

-- a unit of a point, counted on the grid of its error
abbrev pub units_below : ℤ → ℕ
units_below (pos f) = 2 ^ 8
units_below (negsuc f) = 2 ^ suc f * 2 ^ (7 - f)
