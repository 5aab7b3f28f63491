-- Whole numbers and dyadics, each in its one spelling, however great they are.
use Rattle.std.specs.Prelude.{◌==◌, ℕ, zero, suc, ℤ, pos, negsuc, Bool, true, false, not, ◌||◌, List, [], ◌∷◌, drop, slice_index, Option, Some, None, option_map, min, ◌^◌, ◌-◌, ◌%◌, unsigned_abs, if◌then◌else◌}
use Rattle.fx_rational.specs.Dyadic.{Dyadic}
use Rattle.fx_fraction.specs.Digits.{digits_of, saturated}
use Rattle.fx_text.specs.Cutting.{cut_at}

-- one digit, or several of which the first is no 0
abbrev pub has_good_front : List ℕ → Bool
has_good_front [] = false
has_good_front (d ∷ []) = true
has_good_front (d ∷ e ∷ ds) = not (d == 48)

-- the whole number without sign that a field spells
unfoldable pub whole_of : List ℕ → Option ℕ
whole_of field = if has_good_front field then digits_of field else None

-- a number below zero, from the digits behind its sign: there is no -0
abbrev pub negative_number : Option ℕ → Option ℤ
negative_number None = None
negative_number (Some zero) = None
negative_number (Some (suc n)) = Some (negsuc n)

-- the whole number that a field spells
unfoldable pub integer_of : List ℕ → Option ℤ
integer_of field =
    if slice_index field 0 == 45 then negative_number (whole_of (drop 1 field)) else option_map pos (whole_of field)

-- m / 2^e in its one spelling: e is 0 or m is odd
abbrev pub lowest_spelled : Option ℤ → Option ℕ → Option Dyadic
lowest_spelled (Some m) (Some e) = if e == 0 || unsigned_abs m % 2 == 1 then Some (record { m = m; e = e }) else None
lowest_spelled m e = None

-- the same from what stands before and behind the colon
abbrev pub dyadic_in : Option (List ℕ × List ℕ) → Option Dyadic
dyadic_in None = None
dyadic_in (Some parts) = lowest_spelled (integer_of parts.0) (whole_of parts.1)

-- the dyadic that a field m:e spells
unfoldable pub dyadic_of : List ℕ → Option Dyadic
dyadic_of field = dyadic_in (cut_at 58 field)

-- what the code keeps of a number with a sign
abbrev pub kept_signed : ℤ → ℤ
kept_signed (pos n) = pos (saturated n)
kept_signed (negsuc n) = negsuc (min n (2 ^ 64 - 2))

-- and of a dyadic's parts
abbrev pub kept_dyadic : Dyadic → ℤ × ℕ
kept_dyadic d = (kept_signed d.m, saturated d.e)
