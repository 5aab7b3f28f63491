-- The rows of any lines are in range.
use Rattle.std.proofs.Common.{◌≡◌, ℕ, Bool, true, false, List, [], ◌∷◌, Option, Some, None, length, map, refl, ap}
use Rattle.std.specs.Prelude.{Result, Ok, Err, IfSome, nat_lt, if◌then◌else◌}
use Rattle.std.specs.List.{list_any}
use Rattle.std.proofs.lemmas.List.Elements.{All-nil, All-cons}
use Rattle.fx_rational.specs.Decimal.{Decimal, decimal_value}
use Rattle.fx_model.specs.Function.{Function}
use Rattle.fx_model.specs.Limits.{line_limit}
use Rattle.fx_model.specs.Rows.{IsInRange}
use Rattle.fx_rows.specs.Line.{line_fields, is_return}
use Rattle.fx_rows.specs.Blanks.{without_blanks}
use Rattle.fx_rows.specs.Faults.{RowFlaw, at_input}
use Rattle.fx_rows.specs.Header.{columns_from, header_of, header_of_fields, column_names, with_columns}
use Rattle.fx_rows.specs.Values.{Values, row_of, row_of_fields, stopped}
use Rattle.fx_rows.specs.ReadRows.{AreInRange, Given, Read, after_header, after_row, after_values, lines_read, rows_from}
use Rattle.fx_rows.specs.declared.fault.RowKind.TheVariants.{LineTooLong, StrayReturn}
use Rattle.fx_rows.proofs.InRange.{values_in_range}
use Rattle.fx_rows.proofs.Named.{as-many-inputs}

-- values without a fault are in range
abbrev pub IsGood : Function → Option Values → Type 0
IsGood f o = IfSome o (λ v. v.fault ≡ None → IsInRange f.inputs (map decimal_value v.values))

good_fields : (f : Function) (columns : List ℕ) (o : Option (List (List ℕ))) → length columns ≡ length f.inputs →
    IsGood f (row_of_fields f.inputs columns o)
good_fields f columns None many = tt
good_fields f columns (Some fields) many = values_in_range 0 f.inputs columns fields many

good_choice : (f : Function) (t u : Bool) (a b : RowFlaw) (o : Option Values) → IsGood f o →
    IsGood f (if t then Some (stopped a) else if u then Some (stopped b) else o)
good_choice f true u a b o h = λ e. absurd cc
good_choice f false true a b o h = λ e. absurd cc
good_choice f false false a b o h = h

pub good_row : (f : Function) (columns line : List ℕ) → length columns ≡ length f.inputs →
    IsGood f (row_of f columns line)
good_row f columns line many =
    good_choice f (nat_lt line_limit (length line)) (list_any is_return line) (at_input LineTooLong 0)
    (at_input StrayReturn 0) _ (good_fields f columns (line_fields line) many)

good_values : (f : Function) (vs : List Decimal) (fault : Option RowFlaw) (more : Given) →
    (fault ≡ None → IsInRange f.inputs (map decimal_value vs)) → AreInRange f more.rows
    → AreInRange f (after_values vs fault more).rows
good_values f vs None more here later =
    All-cons (λ row. IsInRange f.inputs (map decimal_value row)) vs more.rows (here refl) later
good_values f vs (Some fault) more here later = All-nil (λ row. IsInRange f.inputs (map decimal_value row))

good_after : (f : Function) (o : Option Values) (more : Given) → IsGood f o → AreInRange f more.rows →
    AreInRange f (after_row o more).rows
good_after f None more here later = later
good_after f (Some v) more here later = good_values f v.values v.fault more here later

good_rows : (f : Function) (columns : List ℕ) (ls : List (List ℕ)) → length columns ≡ length f.inputs →
    AreInRange f (rows_from f columns ls).rows
good_rows f columns [] many = All-nil (λ row. IsInRange f.inputs (map decimal_value row))
good_rows f columns (l ∷ ls) many =
    good_after f (row_of f columns l) (rows_from f columns ls) (good_row f columns l many) (good_rows f columns ls many)

-- a header has a column for each input
pub chosen_header : (t u : Bool) (a b : RowFlaw) (r : Result (Option (List ℕ)) RowFlaw) (columns : List ℕ) →
    (if t then Err a else if u then Err b else r) ≡ Ok (Some columns) → r ≡ Ok (Some columns)
chosen_header true u a b r columns e = absurd cc
chosen_header false true a b r columns e = absurd cc
chosen_header false false a b r columns e = e

columns_in : (r : Result (List ℕ) RowFlaw) (columns : List ℕ) → with_columns r ≡ Ok (Some columns) → r ≡ Ok columns
columns_in (Ok ps) columns e = let same : ps ≡ columns = cc in ap Ok same
columns_in (Err f) columns e = absurd cc

many_fields : (f : Function) (o : Option (List (List ℕ))) (columns : List ℕ) →
    header_of_fields (column_names f) o ≡ Ok (Some columns) → length columns ≡ length f.inputs
many_fields f None columns e = absurd cc
many_fields f (Some fields) columns e =
    as-many-inputs f.inputs (map without_blanks fields) columns
    (columns_in (columns_from 0 (column_names f) (map without_blanks fields)) columns e)

pub many_columns : (f : Function) (line columns : List ℕ) → header_of f line ≡ Ok (Some columns) →
    length columns ≡ length f.inputs
many_columns f line columns e =
    many_fields f (line_fields line) columns
    (chosen_header (nat_lt line_limit (length line)) (list_any is_return line) (at_input LineTooLong 0)
    (at_input StrayReturn 0) _ columns e)

good_behind : (f : Function) (h : Result (Option (List ℕ)) RowFlaw) (ls : List (List ℕ)) (more : Read) →
    ((columns : List ℕ) → h ≡ Ok (Some columns) → length columns ≡ length f.inputs)
    → AreInRange f more.given.rows → AreInRange f (after_header f h ls more).given.rows
good_behind f (Err fault) ls more many later = All-nil (λ row. IsInRange f.inputs (map decimal_value row))
good_behind f (Ok None) ls more many later = later
good_behind f (Ok (Some columns)) ls more many later = good_rows f columns ls (many columns refl)

pub all_in_range : (f : Function) (ls : List (List ℕ)) → AreInRange f (lines_read f ls).given.rows
all_in_range f [] = All-nil (λ row. IsInRange f.inputs (map decimal_value row))
all_in_range f (l ∷ ls) = good_behind f (header_of f l) ls (lines_read f ls) (many_columns f l) (all_in_range f ls)
