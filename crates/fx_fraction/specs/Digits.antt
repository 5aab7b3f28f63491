-- Whole numbers that digits spell, and what is kept of them in 64 bits.
use Rattle.std.specs.Prelude.{ℕ, ◌-◌, ◌^◌, List, Option, Some, None, min, if◌then◌else◌}
use Rattle.std.specs.Str.{all_ascii_digits}
use Rattle.std.specs.Str.Parse.{digits_value}

-- what digits say, however great it is
abbrev pub digits_of : List ℕ → Option ℕ
digits_of text = if all_ascii_digits text then Some (digits_value 10 text) else None

-- a number in 64 bits: one past the greatest is kept as the greatest
abbrev pub saturated : ℕ → ℕ
saturated n = min n (2 ^ 64 - 1)
