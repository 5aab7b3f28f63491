-- Values that are written into a row at their inputs' places.
use Rattle.std.proofs.Common.{◌≡◌, ℕ, zero, suc, ◌+◌, ◌<◌, Bool, true, false, eqb, ltb, List, [], ◌∷◌, Option, Some, None, Ok, length, take, drop, get_or, set, refl, sym, ap, subst, ◌∙◌, arith, drop-cons, add-one}
use Rattle.std.specs.Prelude.{◌||◌, ◌==◌, Result, OnSome, is_some}
use Rattle.std.specs.List.{list_any}
use Rattle.std.proofs.lemmas.Bool.{eqb-true, eqb-false, ltb-true, ltb-false, or_parts}
use Rattle.std.proofs.lemmas.List.{drop_all, get_or-set_same, get_or-set_other}
use Rattle.csv.specs.Records.{field_at}
use Rattle.fx_rational.specs.Decimal.{Decimal}
use Rattle.fx_model.specs.Function.{Input}
use Rattle.fx_fraction.specs.declared.range.Range.{Range}
use Rattle.fx_rows.proofs.Cuts.{first_there}
use Rattle.fx_rows.specs.Line.{is_special, is_return, pieces, plain_fields}
use Rattle.fx_rows.specs.Passing.{HasValue, IsValue, zero_decimal}
use Rattle.fx_rows.specs.Ordered.{IsOrder}
use Rattle.fx_rows.specs.Ranges.{IsRangeOf}
use Rattle.fx_rows.specs.Results.{IsRowRead}
use Rattle.fx_rows.specs.Values.{Values, field_value, after_value, values_from, row_of_fields}
use Rattle.fx_rows.specs.declared.fault.RowKind.{RowKind}
use Rattle.fx_rows.proofs.Numbers.{number_value}
use Rattle.fx_rows.proofs.Read.{place-at}

-- a piece of what is left is one of all
piece_left : (xs : List (List ℕ)) (n k m : ℕ) → m ≡ n + k → field_at (drop n xs) k ≡ field_at xs m
unfolding field_at
piece_left xs zero k m e = ap (field_at xs) (omega (arith, e))
piece_left [] (suc n) k m e = refl
piece_left (x ∷ xs) (suc n) k zero e = absurd (omega (arith, e))
piece_left (x ∷ xs) (suc n) k (suc m) e = piece_left xs n k m (omega (arith, e))

-- a number in range, behind so many columns of what is left of a text
pub column_value : (x : Input) (fields left others : List (List ℕ)) (text : List ℕ) (range : Range) (d : Decimal)
    (end column count place : ℕ) → IsRangeOf x range → IsValue text range d end
    → left ≡ drop column fields → place ≡ column + count → pieces text ≡ drop count left →
    pieces text ≡ take end text ∷ others → field_value x (field_at fields place) ≡ Ok d
column_value x fields left others text range d end column count place h v behind there here first =
    ap (field_value x) (sym (first_there left (pieces text) others (take end text) count first here
    ∙ ap (λ l. field_at l count) behind ∙ piece_left fields column count place there))
    ∙ sym (number_value (take end text) d (sym v.leads.number) x (sym (h d v.places) ∙ v.held))

module _ (is : List Input) (ps : List ℕ) (fields : List (List ℕ)) where
  -- one more value in the row, and those before it
  pub one_placed : (order : List ℕ) (row : List Decimal) (k : ℕ) (v : Decimal) (x : Input) →
      get_or order k 0 < length row
      → drop (get_or order k 0) is ≡ x ∷ drop (get_or order k 0 + 1) is →
      field_value x (field_at fields (get_or ps (get_or order k 0) 0)) ≡ Ok v
      → ((j : ℕ) → j < k → HasValue is ps fields row (get_or order j 0))
      → (j : ℕ) → j < k + 1 → HasValue is ps fields (set row (get_or order k 0) v) (get_or order j 0)
  one_placed order row k v x lt at_input value before j below = by (eqb (get_or order j 0) i) refl (ltb j k) refl
    where
      i : ℕ
      i = get_or order k 0

      here : HasValue is ps fields (set row i v) i
      here = record {
        input = x;
        at_input = at_input;
        value = value ∙ ap Ok (sym (get_or-set_same row i v zero_decimal lt));
      }

      by : (b : Bool) → eqb (get_or order j 0) i ≡ b → (c : Bool) → ltb j k ≡ c →
          HasValue is ps fields (set row i v) (get_or order j 0)
      by true e c f = subst (HasValue is ps fields (set row i v)) (sym (eqb-true (get_or order j 0) i e)) here
      by false e true f =
          let h = before j (ltb-true j k f) in
          record {
            input = h.input;
            at_input = h.at_input;
            value =
                h.value ∙ ap Ok (sym (get_or-set_other row i (get_or order j 0) v zero_decimal
                (eqb-false (get_or order j 0) i e)));
          }
      by false e false f =
          let same : j ≡ k = omega (arith, ltb-false j k f, below) in
          absurd (eqb-false (get_or order j 0) i e (ap (λ n. get_or order n 0) same))

  -- a row that has all values
  module _ (row : List Decimal) (many : length ps ≡ length is) (long : length row ≡ length is) (all : (i : ℕ) →
      i < length is → HasValue is ps fields row i) where
    values_behind : (n k : ℕ) → n + k ≡ length is →
        values_from k (drop k is) (drop k ps) fields ≡ record { values = drop k row; fault = None }
    unfolding values_from
    values_behind zero k e =
        ap (λ l. values_from k l (drop k ps) fields) (drop_all k is (omega (arith, e)))
        ∙ ap (λ l. values_from k [] l fields) (drop_all k ps (omega (arith, e, many)))
        ∙ ap (λ l. record { values = l; fault = None }) (sym (drop_all k row (omega (arith, e, long))))
    values_behind (suc n) k e =
        let lt : k < length is = omega (arith, e) in
        let h = all k lt in
        let v = get_or row k zero_decimal in
        let rest = values_from (k + 1) (drop (k + 1) is) (drop (k + 1) ps) fields in
        ap (λ l. values_from k l (drop k ps) fields) h.at_input
        ∙ ap (λ l. values_from k (h.input ∷ drop (k + 1) is) l fields) (place-at ps k (omega (arith, lt, many)))
        ∙ ap (λ (r : Result Decimal RowKind). after_value k r rest) h.value
        ∙ ap (λ w. after_value k (Ok v) w) (values_behind n (k + 1) (omega (arith, e)))
        ∙ ap (λ l. record { values = l; fault = None })
        (sym (drop-cons row k zero_decimal (omega (arith, lt, long)) ∙ ap (λ m. v ∷ drop m row) (sym (add-one k))))

    pub all_placed : values_from 0 is ps fields ≡ record { values = row; fault = None }
    all_placed = values_behind (length is) 0 (omega arith)

-- where an input is found in the order
found_at : (order : List ℕ) (i : ℕ) → list_any (λ j. j == i) order ≡ true →
    (k : ℕ) × (k < length order) × (get_or order k 0 ≡ i)
found_at [] i e = absurd cc
found_at (j ∷ order) i e = by (eqb j i) refl e (found_at order i)
  where
    by : (b : Bool) → eqb j i ≡ b → (b || list_any (λ j. j == i) order) ≡ true
        → (list_any (λ j. j == i) order ≡ true → (k : ℕ) × (k < length order) × (get_or order k 0 ≡ i)) →
        (k : ℕ) × (k < length (j ∷ order)) × (get_or (j ∷ order) k 0 ≡ i)
    by true s h later = (0, omega arith, eqb-true j i s)
    by false s h later = let r = later h in (suc r.0, omega (arith, r.1), r.2)

-- the row of a line whose fields are its pieces
pub row_placed : (is : List Input) (ps : List ℕ) (line order : List ℕ) (row : List Decimal)
    (o : Option (List (List ℕ))) → length ps ≡ length is → length row ≡ length is → 0 < length line
    → o ≡ plain_fields line → IsOrder (length is) order → 0 < length order →
    ((k : ℕ) → k < length order → HasValue is ps (pieces line) row (get_or order k 0))
    → IsRowRead (Ok true) row (row_of_fields is ps o)
row_placed is ps [] order row o many long some fields inputs any placed = absurd (omega arith)
row_placed is ps (b ∷ bs) order row o many long some fields inputs any placed =
    let all : (i : ℕ) → i < length is → HasValue is ps (pieces (b ∷ bs)) row i = λ i lt. (
    let k = found_at order i (inputs.all any i lt) in subst (HasValue is ps (pieces (b ∷ bs)) row) k.2 (placed k.0 k.1)
    ) in
    subst (λ (w : Option Values). IsRowRead (Ok true) row w)
    (sym (ap (row_of_fields is ps) fields ∙ ap Some (all_placed is ps (pieces (b ∷ bs)) row many long all))) (
      refl,
      refl,
    )

-- no line end at all is no return
pub no_return_in : (xs : List ℕ) → list_any is_special xs ≡ false → list_any is_return xs ≡ false
no_return_in [] e = refl
no_return_in (x ∷ xs) e =
    let p = or_parts (is_special x) (list_any is_special xs) e in
    let q = or_parts (eqb x 34) ((eqb x 13) || (eqb x 10)) p.0 in
    let r = or_parts (eqb x 13) (eqb x 10) q.1 in
    rw r.0 (no_return_in xs p.1)

-- an answer that is there
pub on_some : {P T : Type 0} (o : Option T) → is_some o ≡ true → OnSome o P → P
on_some None e p = absurd cc
on_some (Some x) e p = p
