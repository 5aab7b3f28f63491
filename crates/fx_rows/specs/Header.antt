-- The columns that a header gives to the inputs, or the first check that fails.
use Rattle.std.specs.Prelude.{◌≡◌, ◌⊎◌, ℕ, ◌+◌, List, [], ◌∷◌, map, length, Option, Some, None, Result, Ok, Err, if◌then◌else◌, nat_lt}
use Rattle.std.specs.List.{list_any}
use Rattle.fx_model.specs.Function.{Function}
use Rattle.fx_model.specs.Limits.{line_limit}
use Rattle.fx_rows.specs.Line.{line_fields, is_return}
use Rattle.fx_rows.specs.Blanks.{without_blanks}
use Rattle.fx_rows.specs.Faults.{RowFlaw, at_input, row_fault_of, IsMemory}
use Rattle.fx_rows.specs.Places.{places_of}
use Rattle.fx_rows.specs.declared.columns.Columns.{Columns}
use Rattle.fx_rows.specs.declared.fault.RowFault.{RowFault}
use Rattle.fx_rows.specs.declared.fault.RowKind.TheVariants.{MissingColumn, TwiceNamed, LineTooLong, StrayReturn}

-- what a clause sees of the columns
abbrev pub columns_of : Columns → List ℕ
columns_of c = c.places

-- one column for each input
abbrev pub HasPlaces : Columns → Function → Type 0
HasPlaces c f = length c.places ≡ length f.inputs

-- one more place before the others
abbrev pub place_before : ℕ → Result (List ℕ) RowFlaw → Result (List ℕ) RowFlaw
place_before p (Ok ps) = Ok (p ∷ ps)
place_before p (Err f) = Err f

-- the places of the name of input i, where the later inputs have `rest`
abbrev pub after_input : ℕ → List ℕ → Result (List ℕ) RowFlaw → Result (List ℕ) RowFlaw
after_input i [] rest = Err (at_input MissingColumn i)
after_input i (p ∷ []) rest = place_before p rest
after_input i (p ∷ q ∷ ps) rest = Err (at_input TwiceNamed i)

-- the one column of each name, where the first is that of input i
unfoldable pub columns_from : ℕ → List (List ℕ) → List (List ℕ) → Result (List ℕ) RowFlaw
columns_from i [] fields = Ok []
columns_from i (name ∷ names) fields = after_input i (places_of name fields) (columns_from (i + 1) names fields)

abbrev pub with_columns : Result (List ℕ) RowFlaw → Result (Option (List ℕ)) RowFlaw
with_columns (Ok ps) = Ok (Some ps)
with_columns (Err f) = Err f

-- a blank line has no header
abbrev pub header_of_fields : List (List ℕ) → Option (List (List ℕ)) → Result (Option (List ℕ)) RowFlaw
header_of_fields names None = Ok None
header_of_fields names (Some fields) = with_columns (columns_from 0 names (map without_blanks fields))

abbrev pub column_names : Function → List (List ℕ)
column_names f = map (λ i. i.name) f.inputs

-- what a header line gives to the inputs of a function
abbrev pub header_of : Function → List ℕ → Result (Option (List ℕ)) RowFlaw
header_of f line =
    if nat_lt line_limit (length line) then Err (at_input LineTooLong 0)
    else if list_any is_return line then Err (at_input StrayReturn 0)
    else header_of_fields (column_names f) (line_fields line)

-- memory ran out, or the fault is the wanted one
abbrev pub IsHeaderFault : {T : Type 0} → RowFault → Result T RowFlaw → Type 0
IsHeaderFault e wanted = IsMemory e ⊎ (wanted ≡ Err (row_fault_of e))
