-- A name's column, field by field, and the unit of a line between its commas.
use Rattle.std.proofs.Common.{◌≡◌, ℕ, zero, suc, ◌+◌, List, [], ◌∷◌, ◌++◌, ◌<◌, ◌&&◌, Bool, true, false, length, refl, arith, ap, sym, subst, ◌∙◌}
use Rattle.std.specs.Prelude.{if◌then◌else◌, nat_lt, Option, None, Some}
use Rattle.std.specs.Str.Parse.{digits_value}
use Rattle.std.proofs.lemmas.Bool.Decides.{nat_tests}
use Rattle.std.specs.Str.{bytes_eq}
use Rattle.csv.specs.Records.{field_at}
use Rattle.fx_rows.specs.Line.{line_fields, pieces, plain_fields}
use Rattle.fx_rows.specs.Blanks.{without_blanks}
use Rattle.fx_rows.specs.Places.{places_of}
use Rattle.fx_rows.specs.declared.column.Column.{Column}
use Rattle.fx_rows.specs.UnitColumn.{column_after, column_among, is_unit_text, unit_in, unit_in_field, unit_of}
use Rattle.fx_rows.proofs.Seen.{here, places_from-append}

among-more : (ps : List ℕ) (p : ℕ) → column_among (ps ++ p ∷ []) ≡ column_after (column_among ps) p
among-more [] p = refl
among-more (q ∷ []) p = refl
among-more (q ∷ r ∷ ps) p = refl

among-none : (ps : List ℕ) → column_among (ps ++ []) ≡ column_among ps
among-none [] = refl
among-none (q ∷ []) = refl
among-none (q ∷ r ∷ ps) = refl

-- the column of a name after one more field
pub found-step : (name f : List ℕ) (xs : List (List ℕ))
    → column_among (places_of name (xs ++ f ∷ [])) ≡ (if bytes_eq f name
    then column_after (column_among (places_of name xs)) (length xs) else column_among (places_of name xs))
found-step name f xs =
    ap column_among (places_from-append name f 0 xs) ∙ cases (bytes_eq f name) (places_of name xs) where
      cases : (b : Bool) (ps : List ℕ) →
          column_among (ps ++ here b (0 + length xs)) ≡ (if b then column_after (column_among ps) (length xs)
          else column_among ps)
      cases true ps = ap (λ n. column_among (ps ++ n ∷ [])) (omega arith) ∙ among-more ps (length xs)
      cases false ps = among-none ps

-- the unit of a text that has the fields between its commas, which an empty one hasn't
pub unit-plain : (units place : ℕ) (text : List ℕ) →
    unit_in_field units (field_at (pieces text) place) ≡ unit_in units place (plain_fields text)
unfolding field_at
unit-plain units zero [] = refl
unit-plain units (suc place) [] = refl
unit-plain units place (b ∷ bs) = refl

pub found-next : (name f : List ℕ) (xs ys : List (List ℕ)) (found found' : Column) (has_name : Bool) (place : ℕ) →
    found ≡ column_among (places_of name xs) → has_name ≡ bytes_eq f name
    → place ≡ length xs → xs ++ f ∷ [] ≡ ys → found' ≡ (if has_name then column_after found place else found) →
    found' ≡ column_among (places_of name ys)
found-next name f xs ys found found' has_name place before test at_end more next =
    next ∙ ap (λ b. if b then column_after found place else found) test
    ∙ ap (λ c. if bytes_eq f name then column_after c place else c) before
    ∙ ap (λ k. if bytes_eq f name then column_after (column_among (places_of name xs)) k
    else column_among (places_of name xs)) at_end
    ∙ sym (found-step name f xs) ∙ ap (λ fs. column_among (places_of name fs)) more

-- ---- what a line that was read has
named-below : (t u : Bool) (n units k : ℕ) → (u ≡ true → n < units) → (if t && u then Some n else None) ≡ Some k →
    k < units
named-below false u n units k below e = absurd cc
named-below true false n units k below e = absurd cc
named-below true true n units k below e = let same : n ≡ k = cc in subst (λ x. x < units) same (below refl)

field-below : (units k : ℕ) (o : Option (List ℕ)) → unit_in_field units o ≡ Some k → k < units
field-below units k None e = absurd cc
field-below units k (Some field) e =
    let text = without_blanks field in
    named-below (is_unit_text text) (nat_lt (digits_value 10 text) units) (digits_value 10 text) units k
    (λ t. grind (arith, nat_tests)) e

fields-below : (units place k : ℕ) (o : Option (List (List ℕ))) → unit_in units place o ≡ Some k → k < units
fields-below units place k None e = absurd cc
fields-below units place k (Some fields) e = field-below units k (field_at fields place) e

-- a unit is one of those that there are
pub unit-below : (units place k : ℕ) (line : List ℕ) → unit_of units place line ≡ Some k → k < units
unit-below units place k line e = fields-below units place k (line_fields line) e
