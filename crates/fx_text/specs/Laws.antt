-- The laws of readers and printers: numbers, dyadics, intervals and lines have one spelling each.
use Rattle.std.specs.Prelude.{◌≡◌, ℕ, ℤ, pos, negsuc, ◌-◌, ◌^◌, ◌<◌, ◌≤◌, ◌≤ℤ◌, List, [], ◌∷◌, ◌++◌, length, map, All, Some, Ok}
use Rattle.std.specs.Fmt.{decimal, signed_decimal}
use Rattle.std.specs.List.{flat_map}
use Rattle.fx_rational.specs.Dyadic.{IsWritten}
use Rattle.fx_rational.specs.Interval.{IsWrittenInterval}
use Rattle.fx_model.specs.LineText.{dyadic_text, interval_fields, line_text}
use Rattle.fx_text.specs.Cutting.{Line}
use Rattle.fx_text.specs.Numbers.{whole_of, integer_of}
use Rattle.fx_text.specs.Reading.{IsWithin, keyword_at, number_at, place_at, count_at, dyadic_at, interval_at}
use Rattle.fx_text.specs.Lines.{fields_at}
use Rattle.fx_text.specs.Many.{dyadics_at}
use Rattle.fx_text.specs.Spelling.{AreFields, IsOneSpelling}

-- a number of 64 bits
abbrev pub IsNarrow : ℤ → Type 0
IsNarrow z = IsWithin (negsuc (2 ^ 63 - 1)) (pos (2 ^ 63 - 1)) z

-- a range of such numbers
pub record AreNarrow (low high : ℤ) : Type 0 where
  pub least : negsuc (2 ^ 63 - 1) ≤ℤ low
  pub greatest : high ≤ℤ pos (2 ^ 63 - 1)

-- what is read as a number is the text that is written of it
abbrev pub WholeTakes : Type 0
WholeTakes = (field : List ℕ) (n : ℕ) → n < 2 ^ 64 → whole_of field ≡ Some n → field ≡ decimal n

-- what is written of a number is read as that number
abbrev pub WholeAgain : Type 0
WholeAgain = (n : ℕ) → n < 2 ^ 64 → whole_of (decimal n) ≡ Some n

-- the same with a sign
abbrev pub IntegerTakes : Type 0
IntegerTakes = (field : List ℕ) (z : ℤ) → IsNarrow z → integer_of field ≡ Some z → field ≡ signed_decimal z

abbrev pub IntegerAgain : Type 0
IntegerAgain = (z : ℤ) → IsNarrow z → integer_of (signed_decimal z) ≡ Some z

-- a fixed word is read of that word alone
abbrev pub WordTakes : Type 0
WordTakes = (word : List ℕ) (line rest : Line) → keyword_at word line ≡ Ok rest → line ≡ word ∷ rest

abbrev pub WordAgain : Type 0
WordAgain = (word : List ℕ) (rest : Line) → keyword_at word (word ∷ rest) ≡ Ok rest

-- a number of a range, a place below an end, a count between its limits
abbrev pub NumberLaw : Type 0
NumberLaw = (low high : ℤ) → AreNarrow low high →
    IsOneSpelling (number_at low high) (λ z. signed_decimal z ∷ []) (IsWithin low high)

abbrev pub PlaceLaw : Type 0
PlaceLaw = (end : ℕ) → end < 2 ^ 32 → IsOneSpelling (place_at end) (λ n. decimal n ∷ []) (λ n. n < end)

abbrev pub CountTextLaw : Type 0
CountTextLaw = (low limit : ℕ) → limit < 2 ^ 32 →
    IsOneSpelling (count_at low limit) (λ n. decimal n ∷ []) (λ n. (low ≤ n) × (n ≤ limit))

-- a written dyadic, so many of them, and an interval
abbrev pub DyadicLaw : Type 0
DyadicLaw = IsOneSpelling dyadic_at (λ d. dyadic_text d ∷ []) IsWritten

abbrev pub DyadicsLaw : Type 0
DyadicsLaw =
    (count : ℕ) → IsOneSpelling (dyadics_at count) (map dyadic_text) (λ ds. (length ds ≡ count) × All IsWritten ds)

abbrev pub IntervalLaw : Type 0
IntervalLaw = IsOneSpelling interval_at interval_fields IsWrittenInterval

-- the fields of a line, and the text behind it
abbrev pub LineLaw : Type 0
LineLaw = (n : ℕ) → IsOneSpelling (fields_at n) line_text AreFields

-- a line written field by field: the first, each other behind a space, and a line feed
abbrev pub LineTextLaw : Type 0
LineTextLaw =
    (field : List ℕ) (line : Line) → line_text (field ∷ line) ≡ field ++ flat_map (λ f. 32 ∷ f) line ++ 10 ∷ []
