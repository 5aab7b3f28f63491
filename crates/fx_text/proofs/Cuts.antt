-- Cutting at a byte: what is found there, and which fields that leaves.
use Rattle.std.proofs.Common.{◌≡◌, ℕ, ◌+◌, ◌<◌, Bool, true, false, eqb, ltb, List, [], ◌∷◌, length, take, drop, Option, Some, None, Bor, refl, ◌∙◌, inl, inr, arith, rules, tests}
use Rattle.std.specs.Prelude.{not, is_some}
use Rattle.std.specs.List.{before_first, after_first, position_or_len, slice_split}
use Rattle.std.proofs.lemmas.Option.{some_pair_parts}
use Rattle.std.proofs.lemmas.Bool.{ltb-true, ltb-false}
use Rattle.std.proofs.lemmas.Bool.Decides.{nat_tests}
use Rattle.std.proofs.lemmas.List.Sums.{fails_before_first, prefix_len-le-length}
use Rattle.std.proofs.lemmas.List.Splits.{slice_split_none, slice_split_first, length-slice_split}
use Rattle.fx_text.proofs.Choices.{chosen}
use Rattle.fx_text.specs.Cutting.{cut_at, fields_of, left_of}

-- a cut where such a byte stands first, and where none stands
pub cut_at-found : (c : ℕ) (xs : List ℕ) (i : ℕ) → position_or_len (λ b. eqb b c) xs ≡ i → i < length xs →
    cut_at c xs ≡ Some (take i xs, drop (i + 1) xs)
cut_at-found c xs i e lt = let t : ltb i (length xs) ≡ true = grind (arith, nat_tests) in rw (e, t) refl

pub cut_at-missing : (c : ℕ) (xs : List ℕ) → position_or_len (λ b. eqb b c) xs ≡ length xs → cut_at c xs ≡ None
cut_at-missing c xs e = let t : ltb (length xs) (length xs) ≡ false = grind (arith, nat_tests) in rw (e, t) refl

-- what a cut gives is what std's words say
pub cut_at-parts : (c : ℕ) (xs f rest : List ℕ) → cut_at c xs ≡ Some (f, rest) →
    (position_or_len (λ b. eqb b c) xs < length xs) × (before_first (λ b. eqb b c) xs ≡ f) ×
    (after_first (λ b. eqb b c) xs ≡ rest)
cut_at-parts c xs f rest e =
    elim (chosen (ltb (position_or_len (λ b. eqb b c) xs) (length xs))
    (Some (before_first (λ b. eqb b c) xs, after_first (λ b. eqb b c) xs)) None (Some (f, rest)) e) [
      | inl h ↦
          let parts = some_pair_parts (before_first (λ b. eqb b c) xs) f (after_first (λ b. eqb b c) xs) rest h.1 in
          (ltb-true _ _ h.0, parts.0, parts.1)
      | inr h ↦ absurd cc
    ]

-- where nothing is cut there is no such byte
pub cut_at-none : (c : ℕ) (xs : List ℕ) → cut_at c xs ≡ None → position_or_len (λ b. eqb b c) xs ≡ length xs
cut_at-none c xs e =
    elim (chosen (ltb (position_or_len (λ b. eqb b c) xs) (length xs))
    (Some (before_first (λ b. eqb b c) xs, after_first (λ b. eqb b c) xs)) None None e) [
      | inl h ↦ absurd cc
      | inr h ↦ let past = ltb-false _ _ h.0 in omega (arith, past, prefix_len-le-length (λ b. not (eqb b c)) xs)
    ]

-- the first piece ends at such a byte, and the others stand behind it
pub split-more : (c : ℕ) (xs f rest : List ℕ) → cut_at c xs ≡ Some (f, rest) →
    slice_split (λ b. eqb b c) xs ≡ f ∷ slice_split (λ b. eqb b c) rest
split-more c xs f rest e =
    let h = cut_at-parts c xs f rest e in slice_split_first (λ b. eqb b c) xs 0 h.0 ∙ rw (h.1, h.2) refl

-- a text without such a byte is one piece
pub split-last : (c : ℕ) (xs : List ℕ) → cut_at c xs ≡ None → slice_split (λ b. eqb b c) xs ≡ xs ∷ []
split-last c xs e =
    slice_split_none (λ b. eqb b c) xs
    (λ k d lt. fails_before_first (λ b. eqb b c) xs k d (omega (arith, cut_at-none c xs e)))

-- the same of the fields of a line, which end at spaces
pub fields_of-more : (xs f rest : List ℕ) → cut_at 32 xs ≡ Some (f, rest) → fields_of xs ≡ f ∷ fields_of rest
fields_of-more = split-more 32

pub fields_of-last : (xs : List ℕ) → cut_at 32 xs ≡ None → fields_of xs ≡ xs ∷ []
fields_of-last = split-last 32

-- one more than a number isn't zero
none_of : (n : ℕ) → false ≡ eqb (n + 1) 0
none_of n = search (rules, tests)

-- a part of a line, empty as it may be, is at least one field
pub none_left : (rest : Option (Bor (List ℕ))) (r : Bool) → is_some rest ≡ not r → r ≡ eqb (length (left_of rest)) 0
none_left None true e = refl
none_left None false e = absurd cc
none_left (Some x) true e = absurd cc
none_left (Some x) false e = rw length-slice_split (none_of _)
