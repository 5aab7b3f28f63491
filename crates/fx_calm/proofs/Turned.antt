-- Summands that a loop divides one after the other.
use Rattle.std.proofs.Common.{◌≡◌, ℕ, zero, suc, ◌+◌, ◌-◌, ◌<◌, ◌≤◌, List, [], ◌∷◌, length, slice_index_or, slice_set, refl, sym, ap, subst, ◌∙◌, arith}
use Rattle.std.specs.Prelude.{All}
use Rattle.fx_calm.specs.declared.summand.Summand.{Summand}
use Rattle.fx_calm.specs.Summands.{IsReady, digit, rest, digits, rests}

-- the first i are divided, and their digits come to s
abbrev pub IsTurned : ℕ → ℕ → List Summand → List Summand → ℕ → Type 0
IsTurned c zero old now s = (now ≡ old) × (s ≡ 0)
IsTurned c (suc i) (x ∷ old) (y ∷ now) s = (y ≡ rest c x) × (digit c x ≤ s) × IsTurned c i old now (s - digit c x)
IsTurned c (suc i) old now s = ⊥

-- what stands for a summand where none is
abbrev pub no_summand : Summand
no_summand = record { top = 0; bottom = 0 }

-- the next is as it was
same_next : (c i : ℕ) (old now : List Summand) (s : ℕ) (d : Summand) → IsTurned c i old now s →
    slice_index_or now i d ≡ slice_index_or old i d
same_next c zero old now s d h = ap (λ (xs : List Summand). slice_index_or xs 0 d) h.0
same_next c (suc i) [] now s d h = absurd h
same_next c (suc i) (x ∷ old) [] s d h = absurd h
same_next c (suc i) (x ∷ old) (y ∷ now) s d h = same_next c i old now (s - digit c x) d h.2

-- so it can still be divided
pub ready_next : (c i : ℕ) (old now : List Summand) (s : ℕ) → All (IsReady c) old → i < length old →
    IsTurned c i old now s → IsReady c (slice_index_or now i no_summand)
ready_next c i old now s ready lt h =
    subst (IsReady c) (sym (same_next c i old now s no_summand h)) (ready i no_summand lt)

turned_next : (c i : ℕ) (old now : List Summand) (s : ℕ) (d : Summand) → i < length old → IsTurned c i old now s →
    IsTurned c (suc i) old (slice_set now i (rest c (slice_index_or old i d))) (s + digit c (slice_index_or old i d))
turned_next c zero [] now s d lt h = absurd (omega (arith, lt))
turned_next c zero (x ∷ old) now s d lt h =
    let e = h.1 in
    subst (λ (ys : List Summand). IsTurned c 1 (x ∷ old) (slice_set ys 0 (rest c x)) (s + digit c x)) (sym h.0) (
      refl,
      omega arith,
      (refl, omega (arith, e)),
    )
turned_next c (suc i) [] now s d lt h = absurd h
turned_next c (suc i) (x ∷ old) [] s d lt h = absurd h
turned_next c (suc i) (x ∷ old) (y ∷ now) s d lt h =
    let l = h.1 in
    let more = turned_next c i old now (s - digit c x) d (omega (arith, lt)) h.2 in
    let same : (s - digit c x) + digit c (slice_index_or old i d) ≡ (s + digit c (slice_index_or old i d)) - digit c x =
    omega (arith, l) in (
      h.0,
      omega (arith, l),
      subst (λ (n : ℕ). IsTurned c (suc i) old (slice_set now i (rest c (slice_index_or old i d))) n) same more,
    )

-- the next is divided too, into this digit and this rest
pub turned_more : (c i : ℕ) (old now : List Summand) (s : ℕ) (n : ℕ) (y : Summand) → i < length old →
    IsTurned c i old now s →
    n ≡ digit c (slice_index_or now i no_summand) → y ≡ rest c (slice_index_or now i no_summand) →
    IsTurned c (i + 1) old (slice_set now i y) (s + n)
turned_more c i old now s n y lt h by left =
    let same = same_next c i old now s no_summand h in
    let one : suc i ≡ i + 1 = omega arith in
    subst (λ (m : ℕ). IsTurned c m old (slice_set now i y) (s + n)) one
    (subst (λ (x : Summand). IsTurned c (suc i) old (slice_set now i x) (s + n)) (sym (left ∙ ap (rest c) same))
    (subst (λ (m : ℕ). IsTurned c (suc i) old (slice_set now i (rest c (slice_index_or old i no_summand))) (s + m))
    (sym (by ∙ ap (digit c) same)) (turned_next c i old now s no_summand lt h)))

-- all are divided
pub turned_all : (c i : ℕ) (old now : List Summand) (s : ℕ) → i ≡ length old → IsTurned c i old now s →
    (now ≡ rests c old) × (s ≡ digits c old)
turned_all c zero [] now s e h = h
turned_all c zero (x ∷ old) now s e h = absurd (omega (arith, e))
turned_all c (suc i) [] now s e h = absurd h
turned_all c (suc i) (x ∷ old) [] s e h = absurd h
turned_all c (suc i) (x ∷ old) (y ∷ now) s e h =
    let more = turned_all c i old now (s - digit c x) (omega (arith, e)) h.2 in let l = h.1 in let m = more.1 in
    ((λ j. h.0 j ∷ more.0 j), omega (arith, l, m))
