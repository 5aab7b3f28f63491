-- The rows of an input: of its lines the first that isn't blank is the header, and the others are rows up to the first
-- bad one.
use Rattle.std.specs.Prelude.{ℕ, ◌+◌, Bool, true, false, List, [], ◌∷◌, map, All, Option, Some, None, Result, Ok, Err}
use Rattle.fx_rational.specs.Decimal.{Decimal, decimal_value}
use Rattle.fx_model.specs.Function.{Function}
use Rattle.fx_model.specs.Rows.{IsInRange}
use Rattle.fx_base.specs.Text.{lines_in}
use Rattle.fx_rows.specs.Faults.{RowFlaw, at_input}
use Rattle.fx_rows.specs.Header.{header_of}
use Rattle.fx_rows.specs.Values.{Values, row_of}
use Rattle.fx_rows.specs.declared.fault.RowKind.TheVariants.{MissingColumn}

-- the rows before the first bad line; that line is told by how many lines stand before it, so its number is one more
pub record Given : Type 0 where
  pub rows : List (List Decimal)
  pub bad : Option (ℕ × RowFlaw)

abbrev pub bad_here : RowFlaw → Given
bad_here f = record { rows = []; bad = Some (0, f) }

-- the place of a bad line, where so many more lines stand before it
abbrev pub moved_down : {T : Type 0} → ℕ → Option (ℕ × T) → Option (ℕ × T)
moved_down k None = None
moved_down k (Some p) = Some (k + p.0, p.1)

-- behind a line that is no row
abbrev pub behind_line : Given → Given
behind_line more = record { rows = more.rows; bad = moved_down 1 more.bad }

abbrev pub after_values : List Decimal → Option RowFlaw → Given → Given
after_values vs None more = record { rows = vs ∷ more.rows; bad = moved_down 1 more.bad }
after_values vs (Some fault) more = bad_here fault

-- a blank line is skipped
abbrev pub after_row : Option Values → Given → Given
after_row None more = behind_line more
after_row (Some v) more = after_values v.values v.fault more

-- the rows of these lines, at the columns of the header
abbrev pub rows_from : Function → List ℕ → List (List ℕ) → Given
rows_from f columns [] = record { rows = []; bad = None }
rows_from f columns (l ∷ ls) = after_row (row_of f columns l) (rows_from f columns ls)

-- whether a good header stands, and the rows behind it
pub record Read : Type 0 where
  pub has_header : Bool
  pub given : Given

abbrev pub after_header : Function → Result (Option (List ℕ)) RowFlaw → List (List ℕ) → Read → Read
after_header f (Err fault) ls more = record { has_header = false; given = bad_here fault }
after_header f (Ok None) ls more = record { has_header = more.has_header; given = behind_line more.given }
after_header f (Ok (Some columns)) ls more = record { has_header = true; given = behind_line (rows_from f columns ls) }

-- the rows of these lines; where none is a header, a column is missing behind the last
abbrev pub lines_read : Function → List (List ℕ) → Read
lines_read f [] = record { has_header = false; given = bad_here (at_input MissingColumn 0) }
lines_read f (l ∷ ls) = after_header f (header_of f l) ls (lines_read f ls)

-- the rows of an input
abbrev pub read_rows : Function → List ℕ → Read
read_rows f bytes = lines_read f (lines_in bytes)

-- each row has a value in range for each input
abbrev pub AreInRange : Function → List (List Decimal) → Type 0
AreInRange f rows = All (λ row. IsInRange f.inputs (map decimal_value row)) rows

-- so are the rows of any lines
abbrev pub RowsInRangeLaw : Type 0
RowsInRangeLaw = (f : Function) (ls : List (List ℕ)) → AreInRange f (lines_read f ls).given.rows
