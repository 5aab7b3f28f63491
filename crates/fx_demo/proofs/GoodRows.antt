-- No line of the rows is blank, so that a run that finds none of them bad reads a thousand.
use Rattle.std.proofs.Common.{◌≡◌, ℕ, suc, Bool, true, false, not, ◌&&◌, if◌then◌else◌, nat_lt, List, [], ◌∷◌, length, map, Option, Some, None, Result, Ok, Err, codes, refl, ap, sym, subst, ◌∙◌, drop}
use Rattle.std.specs.Option.{is_some}
use Rattle.std.specs.List.{list_all, list_any}
use Rattle.std.specs.Fmt.{digits}
use Rattle.fx_rational.specs.Decimal.{Decimal}
use Rattle.fx_model.specs.Function.{Function}
use Rattle.fx_model.specs.Limits.{line_limit}
use Rattle.fx_base.specs.Text.{lines_in}
use Rattle.fx_rows.specs.Line.{has_mark, is_return, is_special, line_fields, pieces}
use Rattle.fx_rows.proofs.PlainLines.{unmarked_plain_line}
use Rattle.fx_rows.specs.Blanks.{without_blanks}
use Rattle.fx_rows.specs.Faults.{RowFlaw}
use Rattle.fx_rows.specs.Header.{column_names, columns_from, header_of, header_of_fields, with_columns}
use Rattle.fx_rows.specs.ReadRows.{Given, Read, after_header, after_row, after_values, lines_read, moved_down, rows_from}
use Rattle.fx_rows.specs.Values.{Values, row_of, row_of_fields}
use Rattle.fx_demo.specs.Rows.{demo_rows}

-- ---- a line
-- some bytes, without a quote, an end of line and a mark
abbrev is_plain : List ℕ → Bool
is_plain l = nat_lt 0 (length l) && (not (list_any is_special l) && not (has_mark l))

none_of_both : (some special marked : Bool) → (some && (not special && not marked)) ≡ true →
    (special ≡ false) × (marked ≡ false)
none_of_both true false false e = (refl, refl)
none_of_both true false true e = absurd cc
none_of_both true true marked e = absurd cc
none_of_both false special marked e = absurd cc

-- such a line has fields
has_fields : (l : List ℕ) → is_plain l ≡ true → is_some (line_fields l) ≡ true
has_fields [] e = absurd cc
has_fields (b ∷ bs) e =
    let none = none_of_both (nat_lt 0 (length (b ∷ bs))) (list_any is_special (b ∷ bs)) (has_mark (b ∷ bs)) e in
    ap is_some (unmarked_plain_line (b ∷ bs) none.0 none.1)

chosen : {A : Type 0} (b : Bool) (x y : Option A) → is_some x ≡ true → is_some y ≡ true →
    is_some (if b then x else y) ≡ true
chosen true x y of_x of_y = of_x
chosen false x y of_x of_y = of_y

given_fields : (f : Function) (columns : List ℕ) (fields : Option (List (List ℕ))) → is_some fields ≡ true →
    is_some (row_of_fields f.inputs columns fields) ≡ true
given_fields f columns None e = absurd cc
given_fields f columns (Some fields) e = refl

-- with fields it isn't blank
is_row : (f : Function) (columns l : List ℕ) → is_some (line_fields l) ≡ true → is_some (row_of f columns l) ≡ true
is_row f columns l some =
    chosen (nat_lt line_limit (length l)) _ _ refl
    (chosen (list_any is_return l) _ _ refl (given_fields f columns (line_fields l) some))

-- ---- lines
-- a bad line that is told further down is one
pub still_none : (k : ℕ) (bad : Option (ℕ × RowFlaw)) → moved_down k bad ≡ None → bad ≡ None
still_none k None e = refl
still_none k (Some p) e = absurd cc

one_more_value : (vs : List Decimal) (fault : Option RowFlaw) (more : Given) (n : ℕ) →
    (more.bad ≡ None → length more.rows ≡ n) → (after_values vs fault more).bad ≡ None →
    length (after_values vs fault more).rows ≡ suc n
one_more_value vs None more n ih good = ap suc (ih (still_none 1 more.bad good))
one_more_value vs (Some fault) more n ih good = absurd cc

one_more : (row : Option Values) (more : Given) (n : ℕ) → is_some row ≡ true →
    (more.bad ≡ None → length more.rows ≡ n) → (after_row row more).bad ≡ None →
    length (after_row row more).rows ≡ suc n
one_more None more n some ih good = absurd cc
one_more (Some v) more n some ih good = one_more_value v.values v.fault more n ih good

both : (a b : Bool) → (a && b) ≡ true → (a ≡ true) × (b ≡ true)
both true b e = (refl, e)
both false b e = absurd cc

-- as many rows as lines
counted : (f : Function) (columns : List ℕ) (ls : List (List ℕ)) → list_all is_plain ls ≡ true →
    (rows_from f columns ls).bad ≡ None → length (rows_from f columns ls).rows ≡ length ls
counted f columns [] plain good = refl
counted f columns (l ∷ ls) plain good =
    let b = both (is_plain l) (list_all is_plain ls) plain in
    one_more (row_of f columns l) (rows_from f columns ls) (length ls)
    (is_row f columns l (has_fields l b.0)) (counted f columns ls b.1) good

-- ---- the input
-- a header, and so many lines that are plain
record AreRows (ls : List (List ℕ)) (n : ℕ) : Type 0 where
  others : List (List ℕ)
  parts : ls ≡ codes "x,y" ∷ others
  plain : list_all is_plain others ≡ true
  count : length others ≡ n

abbrev columns_of : Function → Result (List ℕ) RowFlaw
columns_of f = columns_from 0 (column_names f) (map without_blanks (pieces (codes "x,y")))

header_is : (f : Function) → header_of f (codes "x,y") ≡ with_columns (columns_of f)
header_is f = ap (header_of_fields (column_names f)) (unmarked_plain_line (codes "x,y") refl refl)

behind_columns : (f : Function) (found : Result (List ℕ) RowFlaw) (ls : List (List ℕ)) (more : Read) →
    list_all is_plain ls ≡ true → (after_header f (with_columns found) ls more).given.bad ≡ None →
    length (after_header f (with_columns found) ls more).given.rows ≡ length ls
behind_columns f (Ok columns) ls more plain good =
    counted f columns ls plain (still_none 1 (rows_from f columns ls).bad good)
behind_columns f (Err fault) ls more plain good = absurd cc

behind_header : (f : Function) (header : Result (Option (List ℕ)) RowFlaw) (ls : List (List ℕ)) (more : Read) →
    header ≡ with_columns (columns_of f) → list_all is_plain ls ≡ true → (after_header f header ls more).given.bad ≡ None →
    length (after_header f header ls more).given.rows ≡ length ls
behind_header f header ls more is plain =
    subst (λ (h : Result (Option (List ℕ)) RowFlaw). (after_header f h ls more).given.bad ≡ None →
    length (after_header f h ls more).given.rows ≡ length ls) (sym is)
    (behind_columns f (columns_of f) ls more plain)

rows_of : (f : Function) (ls : List (List ℕ)) (n : ℕ) → AreRows ls n → (lines_read f ls).given.bad ≡ None →
    length (lines_read f ls).given.rows ≡ n
rows_of f ls n r =
    subst (λ (xs : List (List ℕ)). (lines_read f xs).given.bad ≡ None → length (lines_read f xs).given.rows ≡ n)
    (sym r.parts)
    (λ good. behind_header f (header_of f (codes "x,y")) r.others (lines_read f r.others) (header_is f) r.plain good
    ∙ r.count)

-- the thousand
demo_lines : AreRows (lines_in demo_rows) 1000
unfolding digits
demo_lines = record { others = drop 1 (lines_in demo_rows); parts = refl; plain = refl; count = refl }

pub thousand : (f : Function) → (lines_read f (lines_in demo_rows)).given.bad ≡ None →
    length (lines_read f (lines_in demo_rows)).given.rows ≡ 1000
thousand f = rows_of f (lines_in demo_rows) 1000 demo_lines
