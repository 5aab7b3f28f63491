-- So many values read one behind the other: as a loop reads them, and the one spelling of all.
use Rattle.std.proofs.Common.{◌≡◌, ℕ, zero, suc, ◌-◌, ◌+◌, ◌≤◌, ◌<◌, List, [], ◌∷◌, ◌++◌, length, Result, Ok, Err, ◌⊎◌, inl, inr, refl, sym, ap, subst, ◌∙◌, append_assoc, arith}
use Rattle.std.specs.List.{flat_map}
use Rattle.std.proofs.lemmas.List.{append-nil}
use Rattle.std.proofs.lemmas.List.Concat.{flat_map-cons}
use Rattle.fx_model.specs.Steps.{◌>>=◌}
use Rattle.fx_text.specs.Many.{AreEach, many, with_front}
use Rattle.fx_text.specs.Spelling.{IsOneSpelling}
use Rattle.fx_model.proofs.Steps.{on_ok}

regroup : {A X E : Type 0} (front : List A) (a : A) (reading : Result (List A × List X) E) →
    with_front front (reading >>= λ x. Ok (a ∷ x.0, x.1)) ≡ with_front (front ++ a ∷ []) reading
regroup {A} front a (Ok x) = ap (λ (all : List A). Ok (all, x.1)) (simp append_assoc)
regroup front a (Err e) = refl

-- nothing stands before
pub with_front_nothing : {A X E : Type 0} (reading : Result (List A × List X) E) → with_front [] reading ≡ reading
with_front_nothing (Ok x) = refl
with_front_nothing (Err e) = refl

-- a loop that has read k of them goes on by one
pub many_goes_on : {I A X E : Type 0} (read : I → List X → Result (A × List X) E) (next : I → A →
    I) (front : List A) (count k : ℕ) (i : I) (xs : List X) (a : A) (after : List X) (total : Result (List A ×
    List X) E)
    → k < count → read i xs ≡ Ok (a, after) → with_front front (many read next (count - k) i xs) ≡ total →
    with_front (front ++ a ∷ []) (many read next (count - (k + 1)) (next i a) after) ≡ total
unfolding many
many_goes_on read next front count k i xs a after total lt h so_far =
    let left : count - k ≡ suc (count - (k + 1)) = omega arith in
    let one : with_front front (many read next (count - k) i xs)
    ≡ with_front (front ++ a ∷ []) (many read next (count - (k + 1)) (next i a) after) =
    rw (left, h) (regroup front a (many read next (count - (k + 1)) (next i a) after)) in
    sym one ∙ so_far

-- it ends with the fault of the next, unless with another answer, as want of memory
pub many_ends : {I A X E Other : Type 0} (read : I → List X → Result (A × List X) E) (next : I → A →
    I) (front : List A) (count k : ℕ) (i : I) (xs : List X) (e : E) (total : Result (List A × List X) E)
    → k < count → (read i xs ≡ Err e) ⊎ Other → with_front front (many read next (count - k) i xs) ≡ total →
    (total ≡ Err e) ⊎ Other
unfolding many
many_ends read next front count k i xs e total lt (inr other) so_far = inr other
many_ends read next front count k i xs e total lt (inl h) so_far =
    let left : count - k ≡ suc (count - (k + 1)) = omega arith in
    let one : with_front front (many read next (count - k) i xs) ≡ Err e = rw (left, h) refl in
    inl (sym so_far ∙ one)

-- it is done behind the last
pub many_is_done : {I A X E : Type 0} (read : I → List X → Result (A × List X) E) (next : I → A →
    I) (front : List A) (count k : ℕ) (i : I) (xs : List X) (total : Result (List A × List X) E)
    → count ≤ k → with_front front (many read next (count - k) i xs) ≡ total → total ≡ Ok (front, xs)
unfolding many
many_is_done {I} {A} read next front count k i xs total le so_far =
    let left : count - k ≡ 0 = omega arith in
    let one : with_front front (many read next (count - k) i xs) ≡ Ok (front, xs) =
    rw left (ap (λ (all : List A). Ok (all, xs)) (append-nil front)) in
    sym so_far ∙ one

-- a reader of which each value has one spelling, wherever `Fits` says so of what is known there and of how many are
-- still to come
pub record HasOneSpelling {I A X E : Type 0} (read : I → List X → Result (A × List X) E) (next : I → A → I) (write : A →
    List X) (Fits : ℕ → I → Type 0) (Is : I → A → Type 0) : Type 0 where
  pub one : (count : ℕ) (i : I) → Fits (suc count) i → IsOneSpelling (read i) write (Is i)
  pub keeps : (count : ℕ) (i : I) (a : A) → Fits (suc count) i → Is i a → Fits count (next i a)

pub many_takes : {I A X E : Type 0} (read : I → List X → Result (A × List X) E) (next : I → A → I) (write : A →
    List X) (Fits : ℕ → I → Type 0) (Is : I → A → Type 0) → HasOneSpelling read next write Fits Is
    → (count : ℕ) (i : I) (xs : List X) (x : List A × List X) → Fits count i → many read next count i xs ≡ Ok x →
    (xs ≡ flat_map write x.0 ++ x.1) × (length x.0 ≡ count) × AreEach Is next i x.0
unfolding many
many_takes {I} {A} {X} read next write Fits Is law zero i xs x fits e =
    let made : ([], xs) ≡ x = cc in
    subst (λ (y : List A × List X). (xs ≡ flat_map write y.0 ++ y.1) × (length y.0 ≡ 0) ×
    AreEach Is next i y.0) made (refl, refl, tt)
many_takes {I} {A} {X} read next write Fits Is law (suc count) i xs x fits e =
    on_ok _ _ x e (λ first hf e.
    on_ok _ _ x e (λ others ho e.
    let a = (law.one count i fits).takes xs first hf in
    let b =
    many_takes read next write Fits Is law count (next i first.0) first.1 others
    (law.keeps count i first.0 fits a.1) ho in
    let made : (first.0 ∷ others.0, others.1) ≡ x = cc in
    subst (λ (y : List A × List X). (xs ≡ flat_map write y.0 ++ y.1) × (length y.0 ≡ suc count) ×
    AreEach Is next i y.0) made (
      a.0 ∙ ap (λ t. write first.0 ++ t) b.0 ∙ sym (append_assoc (write first.0) (flat_map write others.0) others.1)
          ∙ ap (λ t. t ++ others.1) (sym (flat_map-cons write first.0 others.0)),
      ap suc b.1,
      (a.1, b.2),
    )))

pub many_again : {I A X E : Type 0} (read : I → List X → Result (A × List X) E) (next : I → A → I) (write : A →
    List X) (Fits : ℕ → I → Type 0) (Is : I → A → Type 0) → HasOneSpelling read next write Fits Is
    → (i : I) (all : List A) (rest : List X) → Fits (length all) i → AreEach Is next i all →
    many read next (length all) i (flat_map write all ++ rest) ≡ Ok (all, rest)
unfolding many
many_again read next write Fits Is law i [] rest fits each = refl
many_again read next write Fits Is law i (a ∷ all) rest fits (is, each) =
    let text : flat_map write (a ∷ all) ++ rest ≡ write a ++ (flat_map write all ++ rest) =
    ap (λ t. t ++ rest) (flat_map-cons write a all) ∙ append_assoc (write a) (flat_map write all) rest in
    ap (many read next (suc (length all)) i) text
    ∙ rw (
      (law.one (length all) i fits).again a (flat_map write all ++ rest) is,
      many_again read next write Fits Is law (next i a) all rest (law.keeps (length all) i a fits is) each,
    ) refl

-- so many values have one spelling together, if each has one
pub many_spelling : {I A X E : Type 0} (read : I → List X → Result (A × List X) E) (next : I → A → I) (write : A →
    List X) (Fits : ℕ → I → Type 0) (Is : I → A → Type 0) → HasOneSpelling read next write Fits Is
    → (count : ℕ) (i : I) → Fits count i →
    IsOneSpelling (many read next count i) (flat_map write) (λ all. (length all ≡ count) × AreEach Is next i all)
many_spelling read next write Fits Is law count i fits = record {
  takes = λ xs x e. let t = many_takes read next write Fits Is law count i xs x fits e in (t.0, (t.1, t.2));
  again = λ all rest h. again count i all rest fits h.0 h.1;
}
  where
    again : (count : ℕ) (i : _) (all : List _) (rest : List _) → Fits count i → length all ≡ count →
        AreEach Is next i all → many read next count i (flat_map write all ++ rest) ≡ Ok (all, rest)
    again count i all rest fits e each =
        subst (λ k. many read next k i (flat_map write all ++ rest) ≡ Ok (all, rest)) e
        (many_again read next write Fits Is law i all rest (subst (λ k. Fits k i) (sym e) fits) each)
