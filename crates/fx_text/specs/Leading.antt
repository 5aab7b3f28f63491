-- The number that stands first in a text.
use Rattle.std.specs.Prelude.{◌≡◌, ◌==◌, true, ℕ, ◌<◌, ◌≤◌, List, ◌++◌, length, take, Ok, Option, slice_index, slice_range, if◌then◌else◌}
use Rattle.std.specs.Str.Parse.{digits_value}
use Rattle.fx_rational.specs.Decimal.{Decimal}
use Rattle.fx_fraction.specs.DecimalOf.{decimal_of}
use Rattle.fx_fraction.specs.Numeral.{is_number, part_text, part_digits}

-- a comma stands at a place, if anything does
abbrev pub IsEnd : List ℕ → ℕ → Type 0
IsEnd text at = at < length text → slice_index text at ≡ 44

-- the text up to `end` is a number, of this decimal, and there it ends
pub record IsLeading (text : List ℕ) (d : Decimal) (end : ℕ) : Type 0 where
  pub within : end ≤ length text
  pub number : decimal_of (take end text) ≡ Ok d
  pub stop : IsEnd text end

-- where a minus ends, if one stands first
abbrev pub sign_end : List ℕ → ℕ
sign_end text = if slice_index text 0 == 45 then 1 else 0

-- digits with at most one point, from one place to another: what they come to, and how many stand behind the point
pub record IsUnsigned (text : List ℕ) (from size places end : ℕ) : Type 0 where
  pub whole : List ℕ
  pub part : Option (List ℕ)
  pub digits : is_number (whole ++ part_digits part) ≡ true
  pub text_is : slice_range text from end ≡ whole ++ part_text part
  pub value : size ≡ digits_value 10 (whole ++ part_digits part)
  pub places_are : places ≡ length (part_digits part)
  pub after : from ≤ end
  pub within : end ≤ length text
