-- What holds of the outcome of rows, whatever a row does.
use Rattle.std.specs.Prelude.{ℕ, ◌≡◌, ◌<◌, Bool, true, List, [], ◌∷◌, length, nat_lt, Option, Some, None, Err, if◌then◌else◌, refl}
use Rattle.std.specs.List.{list_any}
use Rattle.std.proofs.Common.{ap, ◌∙◌}
use Rattle.std.proofs.lemmas.Bool.{lt-ltb}
use Rattle.fx_rational.specs.Decimal.{Decimal}
use Rattle.fx_model.specs.Function.{Function}
use Rattle.fx_model.specs.Limits.{line_limit}
use Rattle.fx_rows.specs.Line.{line_fields, is_return}
use Rattle.fx_rows.specs.Faults.{RowFlaw, at_input}
use Rattle.fx_rows.specs.Header.{header_of_fields, column_names}
use Rattle.fx_rows.specs.Values.{row_of_fields, stopped as row_stopped}
use Rattle.fx_rows.specs.declared.fault.RowKind.TheVariants.{LineTooLong, StrayReturn}
use Rattle.fx_stream.specs.Outcome.{Outcome, stopped_lines, too_long}
use Rattle.fx_rows.specs.ReadRows.{Given, rows_from, after_row, after_header, lines_read}
use Rattle.fx_stream.specs.Printed.{outcome_of, lines_outcome}

-- where no line is left nothing is printed, and no row is read
pub nothing_printed : (f : Function) (head : List ℕ) (page : List (List Decimal) → List ℕ) → page [] ≡ [] →
    (columns : Option (List ℕ))
    → ((lines_outcome f head page columns []).text ≡ []) × ((lines_outcome f head page columns []).rows ≡ 0)
nothing_printed f head page e None = (refl, refl)
nothing_printed f head page e (Some columns) = (e, refl)

long_header : (f : Function) (line : List ℕ) (t : Bool) → t ≡ true
    → (if t then Err (at_input LineTooLong 0) else if list_any is_return line then Err (at_input StrayReturn 0)
    else header_of_fields (column_names f) (line_fields line))
    ≡ Err (at_input LineTooLong 0)
long_header f line t e =
    ap (λ t. if t then Err (at_input LineTooLong 0) else if list_any is_return line then Err (at_input StrayReturn 0)
    else header_of_fields (column_names f) (line_fields line)) e

long_row : (f : Function) (columns line : List ℕ) (t : Bool) → t ≡ true
    → (if t then Some (row_stopped (at_input LineTooLong 0)) else if list_any is_return line
    then Some (row_stopped (at_input StrayReturn 0)) else row_of_fields f.inputs columns (line_fields line))
    ≡ Some (row_stopped (at_input LineTooLong 0))
long_row f columns line t e =
    ap (λ t. if t then Some (row_stopped (at_input LineTooLong 0)) else if list_any is_return line
    then Some (row_stopped (at_input StrayReturn 0)) else row_of_fields f.inputs columns (line_fields line)) e

-- a line that is too long is bad
pub long_stops : (f : Function) (head : List ℕ) (page : List (List Decimal) → List ℕ) → page [] ≡ [] →
    (columns : Option (List ℕ)) (line : List ℕ) (rest : List (List ℕ))
    → line_limit < length line → lines_outcome f head page columns (line ∷ rest) ≡ stopped_lines too_long
long_stops f head page e None line rest h =
    ap (λ x. outcome_of head page (after_header f x rest (lines_read f rest)))
    (long_header f line (nat_lt line_limit (length line)) (lt-ltb line_limit (length line) h))
long_stops f head page e (Some columns) line rest h =
    ap (λ x. lines_outcome_by page (after_row x (rows_from f columns rest)))
    (long_row f columns line (nat_lt line_limit (length line)) (lt-ltb line_limit (length line) h))
    ∙ ap (λ t. record { text = t; rows = 0; bad = Some (0, too_long) }) e
  where
    lines_outcome_by : (List (List Decimal) → List ℕ) → Given → Outcome RowFlaw
    lines_outcome_by page g = record { text = page g.rows; rows = length g.rows; bad = g.bad }
