-- Unit vectors, entry by entry.
use Rattle.std.proofs.Common.{◌≡◌, ℕ, zero, suc, ◌+◌, ◌-◌, ◌<◌, ◌≤◌, ◌==◌, pos, Bool, true, false, if◌then◌else◌, List, [], ◌∷◌, ◌++◌, length, map, refl, sym, ap, subst, ◌∙◌, append_assoc, arith}
use Rattle.std.specs.List.{range_with_len}
use Rattle.std.proofs.lemmas.List.{ext_get_or}
use Rattle.std.proofs.lemmas.List.FromFn.{get_or-map-range_with_len, length-map-range_with_len, map-range_with_len_more}
use Rattle.fx_rational.specs.Dyadic.{Dyadic, IsWritten, zero_dyadic}
use Rattle.fx_model.specs.Tree.{at}
use Rattle.fx_inequalities.specs.LawfulCertificate.{AreUnitTemplates, unit_vector, zeros}
use Rattle.fx_inequalities.specs.Certificate.{Template, no_template}
use Rattle.fx_inequalities.specs.Formula.{Num}
use Rattle.fx_inequalities.specs.Affine.{unit_coef}
use Rattle.fx_cert.proofs.Units.{zeros_more}

one : Dyadic
one = record { m = pos 1; e = 0 }

-- entry j of the unit vector of state i
abbrev pub unit_entry : ℕ → ℕ → Dyadic
unit_entry i j = if i == j then record { m = pos 1; e = 0 } else zero_dyadic

entry_of : (d : Dyadic) (i j : ℕ) → Num d ≡ unit_coef i j → d ≡ unit_entry i j
unfolding one
entry_of d i j e = by (i == j) e
  where
    by : (t : Bool) → Num d ≡ (if t then Num one else Num zero_dyadic) → d ≡ (if t then one else zero_dyadic)
    by true e = cc
    by false e = cc

other : (i j : ℕ) → j < i → unit_entry i j ≡ zero_dyadic
other i j lt = by (i == j) refl
  where
    by : (t : Bool) → (i == j) ≡ t → (if t then record { m = pos 1; e = 0 } else zero_dyadic) ≡ zero_dyadic
    by true e = absurd (grind (arith, lt, e))
    by false e = refl

later : (i j : ℕ) → i < j → unit_entry i j ≡ zero_dyadic
later i j lt = by (i == j) refl
  where
    by : (t : Bool) → (i == j) ≡ t → (if t then record { m = pos 1; e = 0 } else zero_dyadic) ≡ zero_dyadic
    by true e = absurd (grind (arith, lt, e))
    by false e = refl

here : (i : ℕ) → unit_entry i i ≡ record { m = pos 1; e = 0 }
here i = by (i == i) refl
  where
    by : (t : Bool) → (i == i) ≡ t →
        (if t then record { m = pos 1; e = 0 } else zero_dyadic) ≡ record { m = pos 1; e = 0 }
    by true e = refl
    by false e = absurd (grind (arith, e))

-- the first n entries
abbrev entries : ℕ → ℕ → List Dyadic
entries i n = map (unit_entry i) (range_with_len 0 n)

more : (i n : ℕ) → entries i (suc n) ≡ entries i n ++ unit_entry i n ∷ []
more i n =
    let next : n + 1 ≡ suc n = omega arith in
    subst (λ (m : ℕ). entries i m ≡ entries i n ++ unit_entry i n ∷ []) next
    (map-range_with_len_more (unit_entry i) 0 n n (omega arith))

before : (i n : ℕ) → n ≤ i → entries i n ≡ zeros n
before i zero le = refl
before i (suc n) le = more i n
    ∙ (λ k. before i n (omega (arith, le)) k ++ other i n (omega (arith, le)) k ∷ []) ∙ zeros_more n

behind : (i d : ℕ) → entries i (suc i + d) ≡ zeros i ++ record { m = pos 1; e = 0 } ∷ zeros d
behind i zero = let same : suc i ≡ suc i + 0 = omega arith in
    subst (λ (m : ℕ). entries i m ≡ zeros i ++ record { m = pos 1; e = 0 } ∷ []) same
    (more i i ∙ (λ k. before i i (omega arith) k ++ here i k ∷ []))
behind i (suc d) = let same : suc (suc i + d) ≡ suc i + suc d = omega arith in
    subst (λ (m : ℕ). entries i m ≡ zeros i ++ record { m = pos 1; e = 0 } ∷ zeros (suc d)) same
    (more i (suc i + d) ∙ (λ k. behind i d k ++ later i (suc i + d) (omega arith) k ∷ [])
    ∙ append_assoc (zeros i) (record { m = pos 1; e = 0 } ∷ zeros d) (zero_dyadic ∷ [])
    ∙ ap (λ xs. zeros i ++ record { m = pos 1; e = 0 } ∷ xs) (zeros_more d))

-- a unit vector has its entries
unit_is : (k i : ℕ) → i < k → entries i k ≡ unit_vector k i
unit_is k i lt = let same : suc i + (k - (i + 1)) ≡ k = omega (arith, lt) in
    subst (λ (m : ℕ). entries i m ≡ unit_vector k i) same (behind i (k - (i + 1)))

-- a list that has them is the unit vector
pub unit_by : (xs : List Dyadic) (i : ℕ) → i < length xs →
    ((j : ℕ) → j < length xs → Num (at zero_dyadic xs j) ≡ unit_coef i j) → xs ≡ unit_vector (length xs) i
unit_by xs i lt h =
    ext_get_or zero_dyadic xs (entries i (length xs)) (sym (length-map-range_with_len (unit_entry i) 0 (length xs)))
    (λ j less. entry_of (at zero_dyadic xs j) i j (h j less)
    ∙ sym (get_or-map-range_with_len (unit_entry i) 0 (length xs) j j zero_dyadic less (omega arith)))
    ∙ unit_is (length xs) i lt

-- ---- its entries are 0 and 1
pub entry_at : (k i j : ℕ) → i < k → j < k → at zero_dyadic (unit_vector k i) j ≡ unit_entry i j
entry_at k i j lt less =
    ap (λ xs. at zero_dyadic xs j) (sym (unit_is k i lt))
    ∙ get_or-map-range_with_len (unit_entry i) 0 k j j zero_dyadic less (omega arith)

pub entry_whole : (i j : ℕ) → (unit_entry i j).e ≡ 0
entry_whole i j = by (i == j)
  where
    by : (t : Bool) → (let d : Dyadic = if t then record { m = pos 1; e = 0 } else zero_dyadic in d).e ≡ 0
    by true = refl
    by false = refl

pub entry_written : (i j : ℕ) → IsWritten (unit_entry i j)
entry_written i j = by (i == j)
  where
    by : (t : Bool) → IsWritten (if t then record { m = pos 1; e = 0 } else zero_dyadic)
    by true = record { small = omega arith; places = omega arith; one_spelling = λ lt. absurd (omega (arith, lt)) }
    by false = record { small = omega arith; places = omega arith; one_spelling = λ lt. absurd (omega (arith, lt)) }

-- ---- unit templates by their numbers
pub units_from : (k m : ℕ) (templates : List Template) →
    ((i : ℕ) → i < length templates → i + m < k → (at no_template templates i).coefs ≡ unit_vector k (i + m)) →
    AreUnitTemplates k m templates
units_from k m [] h = tt
units_from k m (r ∷ templates) h = (
  (let same : 0 + m ≡ m = omega arith in
      subst (λ (n : ℕ). n < k → r.coefs ≡ unit_vector k n) same (λ lt. h 0 (omega arith) lt)),
  units_from k (m + 1) templates (λ i less lt. let same : suc i + m ≡ i + (m + 1) = omega arith in
      subst (λ (n : ℕ). (at no_template templates i).coefs ≡ unit_vector k n) same
      (h (suc i) (omega (arith, less)) (omega (arith, lt)))),
)
