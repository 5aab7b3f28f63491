-- What a reader of one field took is what is written of it, and what is written is read again.
use Rattle.std.proofs.Common.{◌≡◌, ℕ, ◌^◌, ◌<◌, ◌≤◌, true, cond, List, [], ◌∷◌, Option, Some, None, Result, Ok, Err, ℤ, pos, negsuc, ◌≤ℤ◌, ◌-ℤ◌, refl, ap, subst, ◌∙◌, inl, inr, arith}
use Rattle.std.specs.Prelude.{int_le, ◌&&◌, unsigned_abs}
use Rattle.std.specs.Fmt.{decimal, signed_decimal}
use Rattle.std.specs.Str.{bytes_eq}
use Rattle.std.proofs.lemmas.Int.{ints}
use Rattle.std.proofs.lemmas.Slice.Eq.{bytes_eq-Decides}
use Rattle.std.proofs.lemmas.Bool.{and_parts}
use Rattle.fx_text.specs.declared.fault.TextKind.{TextKind}
use Rattle.fx_text.specs.declared.fault.TextKind.TheVariants.{BadLine, OutOfRange, TooMany}
use Rattle.fx_text.specs.Cutting.{Line}
use Rattle.fx_text.specs.Numbers.{integer_of}
use Rattle.fx_text.specs.Reading.{IsWithin, field_at, known, keyword_at, number_at, place_at, count_at, ended_at}
use Rattle.fx_text.specs.Laws.{AreNarrow}
use Rattle.fx_model.proofs.Steps.{on_ok}
use Rattle.fx_text.proofs.Choices.{passed, chosen}
use Rattle.fx_text.proofs.NumberLaws.{integer_takes, integer_again}

-- a result that is no fault
abbrev pub done : {A : Type 0} → A → Result A TextKind
done x = Ok x

-- a field, and then the fields behind it
pub front : {a b c : Line} {x : List ℕ} → a ≡ x ∷ b → b ≡ c → a ≡ x ∷ c
front {a} {b} {c} {x} p q = p ∙ ap (λ line. x ∷ line) q

-- what the steps of a reader that succeeded say
pub field_is : (line : Line) (x : List ℕ × Line) → field_at line ≡ Ok x → line ≡ x.0 ∷ x.1
field_is [] x e = absurd cc
field_is (f ∷ fs) x e = cc

pub known_is : {A : Type 0} (o : Option A) (x : A) → known o ≡ Ok x → o ≡ Some x
known_is None x e = absurd cc
known_is (Some y) x e = cc

pub ended_is : (line rest : Line) → ended_at line ≡ Ok rest → line ≡ []
ended_is [] rest e = refl
ended_is (f ∷ fs) rest e = absurd cc

-- the test of a range, both ways
within_from : (low high z : ℤ) → (int_le low z && int_le z high) ≡ true → IsWithin low high z
within_from low high z e =
    let h = and_parts (int_le low z) (int_le z high) e in (grind (arith, ints, h.0), grind (arith, ints, h.1))

within_test : (low high z : ℤ) → IsWithin low high z → (int_le low z && int_le z high) ≡ true
within_test low high z h =
    let a : int_le low z ≡ true = grind (arith, ints, h.0) in
    let b : int_le z high ≡ true = grind (arith, ints, h.1) in
    rw (a, b) refl

-- a fixed word
pub word_takes : (word : List ℕ) (line rest : Line) → keyword_at word line ≡ Ok rest → line ≡ word ∷ rest
unfolding keyword_at
word_takes word line rest e =
    on_ok _ _ rest e (λ f hf e.
    let t = passed (bytes_eq f.0 word) BadLine f.1 rest e in
    field_is line f hf ∙ ap (λ g. g ∷ f.1) ((bytes_eq-Decides f.0 word).0 t.0) ∙ ap (λ r. word ∷ r) t.1)

pub word_again : (word : List ℕ) (rest : Line) → keyword_at word (word ∷ rest) ≡ Ok rest
unfolding keyword_at
word_again word rest = rw ((bytes_eq-Decides word word).1 refl) refl

-- a number of a range
pub number_takes : (low high : ℤ) (line : Line) (x : ℤ × Line) → AreNarrow low high → number_at low high line ≡ Ok x →
    (line ≡ signed_decimal x.0 ∷ x.1) × IsWithin low high x.0
unfolding number_at
number_takes low high line x narrow e =
    on_ok _ _ x e (λ f hf e.
    on_ok _ _ x e (λ z hz e.
    let t = passed (int_le low z && int_le z high) OutOfRange (z, f.1) x e in
    let w = within_from low high z t.0 in
    let s =
    integer_takes f.0 z (
      omega (arith, ints, w.0, narrow.least),
      omega (arith, ints, w.1, narrow.greatest),
    ) (known_is (integer_of f.0) z hz) in
    subst (λ (y : ℤ × Line). (line ≡ signed_decimal y.0 ∷ y.1) × IsWithin low high y.0) t.1 (
      field_is line f hf
          ∙ ap (λ g. g ∷ f.1) s,
      w,
    )))

pub number_again : (low high z : ℤ) (rest : Line) → AreNarrow low high → IsWithin low high z →
    number_at low high (signed_decimal z ∷ rest) ≡ Ok (z, rest)
unfolding number_at
number_again low high z rest narrow w =
    rw (
      integer_again z (omega (arith, ints, w.0, narrow.least), omega (arith, ints, w.1, narrow.greatest)),
      within_test low high z w,
    ) refl

-- the numbers below an end of 32 bits
below_narrow : (end : ℕ) → end < 2 ^ 32 → AreNarrow (pos 0) (pos end -ℤ pos 1)
below_narrow end small = record { least = omega (arith, ints); greatest = omega (arith, ints) }

-- a place below an end
pub place_takes : (end : ℕ) (line : Line) (x : ℕ × Line) → end < 2 ^ 32 → place_at end line ≡ Ok x →
    (line ≡ decimal x.0 ∷ x.1) × (x.0 < end)
unfolding place_at
place_takes end line x small e =
    on_ok _ _ x e (λ z hz e. by z.0 z.1 x
    (number_takes (pos 0) (pos end -ℤ pos 1) line z (below_narrow end small) hz) e)
  where
    by : (z : ℤ) (rest : Line) (x : ℕ × Line) →
        (line ≡ signed_decimal z ∷ rest) × IsWithin (pos 0) (pos end -ℤ pos 1) z →
        done (unsigned_abs z, rest) ≡ done x → (line ≡ decimal x.0 ∷ x.1) × (x.0 < end)
    by (pos n) rest x t e =
        let s : (n, rest) ≡ x = cc in
        subst (λ (y : ℕ × Line). (line ≡ decimal y.0 ∷ y.1) × (y.0 < end)) s (t.0, omega (arith, ints, t.1.1))
    by (negsuc n) rest x t e = absurd (omega (arith, ints, t.1.0))

pub place_again : (end n : ℕ) (rest : Line) → end < 2 ^ 32 → n < end → place_at end (decimal n ∷ rest) ≡ Ok (n, rest)
unfolding place_at
place_again end n rest small lt =
    rw (number_again (pos 0) (pos end -ℤ pos 1) (pos n) rest (below_narrow end small) (
      omega (arith, ints),
      omega (arith, ints),
    )) refl

-- a count between its limits
pub count_takes : (low limit : ℕ) (line : Line) (x : ℕ × Line) → limit < 2 ^ 32 → count_at low limit line ≡ Ok x →
    (line ≡ decimal x.0 ∷ x.1) × (low ≤ x.0) × (x.0 ≤ limit)
unfolding count_at
count_takes low limit line x small e =
    on_ok _ _ x e (λ f hf e.
    on_ok _ _ x e (λ z hz e. by z f.0 f.1 (field_is line f hf) (known_is (integer_of f.0) z hz) e))
  where
    by : (z : ℤ) (g : List ℕ) (rest : Line) → line ≡ g ∷ rest → integer_of g ≡ Some z →
        cond (int_le z (pos limit)) (cond (int_le (pos low) z) (done (unsigned_abs z, rest)) (Err OutOfRange))
        (Err TooMany) ≡ done x → (line ≡ decimal x.0 ∷ x.1) × (low ≤ x.0) × (x.0 ≤ limit)
    by z g rest l i e =
        elim (chosen (int_le z (pos limit)) (cond (int_le (pos low) z) (done (unsigned_abs z, rest)) (Err OutOfRange))
        (Err TooMany) (done x) e) [
          | inr h ↦ absurd cc
          | inl h ↦
              let t = passed (int_le (pos low) z) OutOfRange (unsigned_abs z, rest) x h.1 in
              let high : z ≤ℤ pos limit = grind (arith, ints, h.0) in
              let least : pos low ≤ℤ z = grind (arith, ints, t.0) in
              at z g rest l i high least t.1
        ]
      where
        at : (z : ℤ) (g : List ℕ) (rest : Line) → line ≡ g ∷ rest → integer_of g ≡ Some z → z ≤ℤ pos limit →
            pos low ≤ℤ z → (unsigned_abs z, rest) ≡ x → (line ≡ decimal x.0 ∷ x.1) × (low ≤ x.0) × (x.0 ≤ limit)
        at (pos n) g rest l i high least e =
            let s = integer_takes g (pos n) (omega (arith, ints, least), omega (arith, ints, high)) i in
            subst (λ (y : ℕ × Line). (line ≡ decimal y.0 ∷ y.1) × (low ≤ y.0) × (y.0 ≤ limit)) e (
              l
                  ∙ ap (λ h. h ∷ rest) s,
              omega (arith, ints, least),
              omega (arith, ints, high),
            )
        at (negsuc n) g rest l i high least e = absurd (omega (arith, ints, least))

pub count_again : (low limit n : ℕ) (rest : Line) → limit < 2 ^ 32 → low ≤ n → n ≤ limit →
    count_at low limit (decimal n ∷ rest) ≡ Ok (n, rest)
unfolding count_at
count_again low limit n rest small least high =
    let a : int_le (pos n) (pos limit) ≡ true = grind (arith, ints) in
    let b : int_le (pos low) (pos n) ≡ true = grind (arith, ints) in
    rw (integer_again (pos n) (omega (arith, ints), omega (arith, ints)), a, b) refl
