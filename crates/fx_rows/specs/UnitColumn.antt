-- The column that names the unit of each row, which may also be an input's, and the unit of a row.
use Rattle.std.specs.Prelude.{ℕ, ◌&&◌, Bool, List, [], ◌∷◌, length, map, Option, Some, None, if◌then◌else◌, nat_le, nat_lt}
use Rattle.std.specs.Str.{all_ascii_digits}
use Rattle.std.specs.Str.Parse.{digits_value}
use Rattle.csv.specs.Records.{field_at}
use Rattle.fx_rows.specs.Line.{line_fields}
use Rattle.fx_rows.specs.Blanks.{without_blanks}
use Rattle.fx_rows.specs.Places.{places_of}
use Rattle.fx_rows.specs.declared.column.Column.{Column}
use Rattle.fx_rows.specs.declared.column.Column.TheVariants.{Missing, At, Several}

-- what the places of a name come to
abbrev pub column_among : List ℕ → Column
column_among [] = Missing
column_among (p ∷ []) = At p
column_among (p ∷ q ∷ ps) = Several

-- what one more place makes of it
abbrev pub column_after : Column → ℕ → Column
column_after Missing p = At p
column_after (At q) p = Several
column_after Several p = Several

-- where a name stands among the fields of a header; a blank line has none
abbrev pub column_in : List ℕ → Option (List (List ℕ)) → Column
column_in name None = Missing
column_in name (Some fields) = column_among (places_of name (map without_blanks fields))

-- the column of that name in a header line
abbrev pub column_of : List ℕ → List ℕ → Column
column_of name line = column_in name (line_fields line)

-- 1 to 10 decimal digits; a sign is none
abbrev pub is_unit_text : List ℕ → Bool
is_unit_text text = nat_le 1 (length text) && (nat_le (length text) 10 && all_ascii_digits text)

-- the unit that digits name, of so many
abbrev pub unit_named : ℕ → List ℕ → Option ℕ
unit_named units text =
    if is_unit_text text && nat_lt (digits_value 10 text) units then Some (digits_value 10 text) else None

-- the unit that the field at the units' column names, where there is one
abbrev pub unit_in_field : ℕ → Option (List ℕ) → Option ℕ
unit_in_field units None = None
unit_in_field units (Some field) = unit_named units (without_blanks field)

-- of a line's fields, if it has any
abbrev pub unit_in : ℕ → ℕ → Option (List (List ℕ)) → Option ℕ
unit_in units place None = None
unit_in units place (Some fields) = unit_in_field units (field_at fields place)

-- the unit of a row's line, where the units' column is at this place
abbrev pub unit_of : ℕ → ℕ → List ℕ → Option ℕ
unit_of units place line = unit_in units place (line_fields line)
