-- What the reader's steps give. No clause of a public call rests on this.
use Rattle.std.specs.Prelude.{◌≡◌, ℕ, suc, ◌+◌, ◌*◌, ◌^◌, ◌<◌, ◌≤◌, ℤ, pos, negsuc, List, ◌++◌, length, drop, Option, Some, None, option_map, if◌then◌else◌}
use Rattle.std.specs.Str.Parse.{digits_value, digits_value_after}
use Rattle.fx_fraction.specs.Digits.{saturated}
use Rattle.fx_fraction.specs.declared.significant.Significant.{Significant}
use Rattle.fx_fraction.specs.Numeral.{is_number, power_of, digit_count, first_digits, behind_digits, part_of, part_digits, behind_part}
use Rattle.fx_fraction.specs.Kept.{kept_exponent, Keeps, FitsFront, zeros_of}

-- front * 10^shift, or front / 10^-shift
abbrev pub by_shift : ℕ → ℤ → ℕ × ℕ
by_shift front (pos s) = (front * 10 ^ s, 0)
by_shift front (negsuc s) = (front, suc s)

-- the number of at least one digit, in 64 bits
abbrev pub number_kept : List ℕ → Option ℕ
number_kept ds = if is_number ds then Some (saturated (digits_value 10 ds)) else None

-- the exponent of the power that stands there
abbrev pub exponent_kept : List ℕ → Option ℤ
exponent_kept text = option_map kept_exponent (power_of text)

-- a number that stays below 10^19 with so many digits more
abbrev pub IsBelowTens : ℕ → ℕ → Type 0
IsBelowTens n more = (n + 1) * 10 ^ more ≤ 10 ^ 19

-- a part behind a point, or none: what its digits come to behind a start, how many they are, and where they end
pub record IsShortPart (start : ℕ) (text : List ℕ) (r : ℕ × ℕ × ℕ) : Type 0 where
  pub value : r.0 ≡ digits_value_after 10 start (part_digits (part_of text))
  pub places : r.1 ≡ length (part_digits (part_of text))
  pub small : r.0 < 2 ^ 62
  pub within : r.2 ≤ length text
  pub rest : drop r.2 text ≡ behind_part text

-- few digits and the point that stand first: what the digits come to, how many stand behind the point, and where all
-- end
pub record IsShortNumber (text : List ℕ) (size places end : ℕ) : Type 0 where
  pub some : 0 < digit_count text + length (part_digits (part_of (behind_digits text)))
  pub value : size ≡ digits_value 10 (first_digits text ++ part_digits (part_of (behind_digits text)))
  pub small : size < 2 ^ 62
  pub places_are : places ≡ length (part_digits (part_of (behind_digits text)))
  pub within : end ≤ length text
  pub rest : drop end text ≡ behind_part (behind_digits text)

-- the digits and the point that stand first: what is kept of the digits, how many stand behind the point, and where all
-- end
pub record IsMantissa (text : List ℕ) (digits : Significant) (places end : ℕ) : Type 0 where
  pub some : 0 < digit_count text + length (part_digits (part_of (behind_digits text)))
  pub value : Keeps (digits_value 10 (first_digits text ++ part_digits (part_of (behind_digits text)))) digits
  pub zeros : zeros_of digits < 2 ^ 63
  pub fits : FitsFront digits
  pub places_are : places ≡ length (part_digits (part_of (behind_digits text)))
  pub short : places < 2 ^ 63
  pub within : end ≤ length text
  pub rest : drop end text ≡ behind_part (behind_digits text)
