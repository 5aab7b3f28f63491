-- What is printed of the rows of lines, whatever a row prints.
use Rattle.std.specs.Prelude.{ℕ, List, [], ◌++◌, length, Option, Some, None, if◌then◌else◌}
use Rattle.fx_rational.specs.Decimal.{Decimal}
use Rattle.fx_model.specs.Function.{Function}
use Rattle.fx_rows.specs.Faults.{RowFlaw}
use Rattle.fx_rows.specs.ReadRows.{Read, lines_read, rows_from}
use Rattle.fx_stream.specs.Outcome.{Outcome}

-- what is printed of rows, where `page` prints the rows and `head` stands before them
abbrev pub page_of : List ℕ → (List (List Decimal) → List ℕ) → Read → List ℕ
page_of head page r = if r.has_header then head ++ page r.given.rows else []

abbrev pub outcome_of : List ℕ → (List (List Decimal) → List ℕ) → Read → Outcome RowFlaw
outcome_of head page r = record { text = page_of head page r; rows = length r.given.rows; bad = r.given.bad }

-- what comes of lines, before the header or behind it
abbrev pub lines_outcome : Function → List ℕ → (List (List Decimal) → List ℕ) → Option (List ℕ) → List (List ℕ) →
    Outcome RowFlaw
lines_outcome f head page None ls = outcome_of head page (lines_read f ls)
lines_outcome f head page (Some columns) ls =
    record {
      text = page (rows_from f columns ls).rows;
      rows = length (rows_from f columns ls).rows;
      bad = (rows_from f columns ls).bad;
    }
