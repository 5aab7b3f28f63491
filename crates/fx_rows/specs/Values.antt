-- The values of a row, or those before the first input that fails.
use Rattle.std.specs.Prelude.{ℕ, ◌+◌, List, [], ◌∷◌, length, Option, Some, None, Result, Ok, Err, if◌then◌else◌, nat_lt}
use Rattle.std.specs.List.{list_any}
use Rattle.csv.specs.Records.{field_at}
use Rattle.fx_rational.specs.Decimal.{Decimal, decimal_value}
use Rattle.fx_model.specs.Function.{Function, Input}
use Rattle.fx_model.specs.Limits.{line_limit}
use Rattle.fx_model.specs.Rows.{is_given}
use Rattle.fx_fraction.specs.DecimalOf.{decimal_of}
use Rattle.fx_fraction.specs.declared.fault.NumberFault.{NumberFault}
use Rattle.fx_rows.specs.Line.{line_fields, is_return}
use Rattle.fx_rows.specs.Blanks.{without_blanks}
use Rattle.fx_rows.specs.Faults.{RowFlaw, at_input}
use Rattle.fx_rows.specs.declared.fault.RowKind.{RowKind}
use Rattle.fx_rows.specs.declared.fault.RowKind.TheVariants.{TooFew, BadNumber, OutOfRange, LineTooLong, StrayReturn}

-- the value of a field for an input, or what is wrong with it
abbrev pub value_in_range : Input → Result Decimal NumberFault → Result Decimal RowKind
value_in_range i (Err fault) = Err BadNumber
value_in_range i (Ok d) = if is_given i (decimal_value d) then Ok d else Err OutOfRange

-- the value of the field at an input's column, if there is one, or what is wrong with it
abbrev pub field_value : Input → Option (List ℕ) → Result Decimal RowKind
field_value i None = Err TooFew
field_value i (Some f) = value_in_range i (decimal_of (without_blanks f))

-- the values that were read, and the first fault
pub record Values : Type 0 where
  pub values : List Decimal
  pub fault : Option RowFlaw

abbrev pub stopped : RowFlaw → Values
stopped f = record { values = []; fault = Some f }

abbrev pub value_before : Decimal → Values → Values
value_before v rest = record { values = v ∷ rest.values; fault = rest.fault }

abbrev pub after_value : ℕ → Result Decimal RowKind → Values → Values
after_value k (Err kind) rest = stopped (at_input kind k)
after_value k (Ok v) rest = value_before v rest

-- the values of these inputs at these columns, where the first is input k
unfoldable pub values_from : ℕ → List Input → List ℕ → List (List ℕ) → Values
values_from k (i ∷ is) (p ∷ ps) fields =
    after_value k (field_value i (field_at fields p)) (values_from (k + 1) is ps fields)
values_from k _ _ fields = record { values = []; fault = None }

-- nothing where the line is blank
abbrev pub row_of_fields : List Input → List ℕ → Option (List (List ℕ)) → Option Values
row_of_fields inputs columns None = None
row_of_fields inputs columns (Some fields) = Some (values_from 0 inputs columns fields)

-- what a line gives to the inputs of a function at these columns
abbrev pub row_of : Function → List ℕ → List ℕ → Option Values
row_of f columns line =
    if nat_lt line_limit (length line) then Some (stopped (at_input LineTooLong 0))
    else if list_any is_return line then Some (stopped (at_input StrayReturn 0))
    else row_of_fields f.inputs columns (line_fields line)
