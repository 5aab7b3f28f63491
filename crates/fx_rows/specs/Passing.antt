-- The columns of a line that are passed one by one.
use Rattle.std.specs.Prelude.{◌≡◌, ◌==◌, true, ℕ, pos, ◌+◌, ◌≤◌, Bool, false, List, ◌∷◌, All, Option, Some, None, Ok, length, take, drop, slice_index, slice_index_or}
use Rattle.std.specs.Borrow.{Bor}
use Rattle.std.specs.List.{list_any}
use Rattle.csv.specs.Records.{field_at}
use Rattle.fx_rational.specs.Decimal.{Decimal}
use Rattle.fx_model.specs.Function.{Input}
use Rattle.fx_rows.specs.Line.{is_special}
use Rattle.fx_text.specs.Leading.{IsEnd, IsLeading}
use Rattle.fx_fraction.specs.declared.range.Range.{Range}
use Rattle.fx_fraction.specs.Units.{holds}
use Rattle.fx_rows.specs.Values.{field_value}

-- a piece without a quote or a line end stands first, and ends there
pub record IsPiece (text : List ℕ) (end : ℕ) : Type 0 where
  pub within : end ≤ length text
  pub plain : list_any is_special (take end text) ≡ false
  pub one : All (λ b. (b == 44) ≡ false) (take end text)
  pub stop : IsEnd text end

-- whether a quote or a line end is in what is left of a text
abbrev pub special_left : Option (Bor (List ℕ)) → Bool
special_left None = false
special_left (Some rest) = list_any is_special rest.now

-- a number stands first and ends there, of a decimal in a range
pub record IsValue (text : List ℕ) (range : Range) (d : Decimal) (end : ℕ) : Type 0 where
  pub leads : IsLeading text d end
  pub held : holds range d ≡ true
  pub places : d.b ≤ 18

-- the zero that fills a row before it is read
abbrev pub zero_decimal : Decimal
zero_decimal = record { a = pos 0; b = 0 }

-- at place i of a row stands the value of input i
pub record HasValue (is : List Input) (ps : List ℕ) (fields : List (List ℕ)) (row : List Decimal) (i : ℕ) : Type 0 where
  pub input : Input
  pub at_input : drop i is ≡ input ∷ drop (i + 1) is
  pub value : field_value input (field_at fields (slice_index ps i)) ≡ Ok (slice_index_or row i zero_decimal)
