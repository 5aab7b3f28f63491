-- The ranges that stand for the inputs of a function.
use Rattle.std.specs.Prelude.{ℕ, ◌≡◌, ◌≤◌, List, [], ◌∷◌, length}
use Rattle.fx_rational.specs.Decimal.{Decimal, decimal_value}
use Rattle.fx_model.specs.Function.{Function, Input}
use Rattle.fx_model.specs.Rows.{is_given}
use Rattle.fx_fraction.specs.Units.{holds}
use Rattle.fx_fraction.specs.declared.range.Range.{Range}
use Rattle.fx_rows.specs.declared.reader.RowReader.{RowReader}

-- r holds just what an input may be given
abbrev pub IsRangeOf : Input → Range → Type 0
IsRangeOf i r = (d : Decimal) → d.b ≤ 18 → holds r d ≡ is_given i (decimal_value d)

-- a range for each input
abbrev pub AreRangesOf : List Input → List Range → Type 0
AreRangesOf [] [] = Unit {0}
AreRangesOf (i ∷ is) (r ∷ rs) = IsRangeOf i r × AreRangesOf is rs
AreRangesOf _ _ = ⊥

-- the columns by which it reads
abbrev pub reader_columns : RowReader → List ℕ
reader_columns r = r.places

-- it has a column and a range for each input of a function
abbrev pub Serves : RowReader → Function → Type 0
Serves r f = (length r.places ≡ length f.inputs) × AreRangesOf f.inputs r.ranges
