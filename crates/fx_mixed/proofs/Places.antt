-- Where words stand among bytes.
use Rattle.std.proofs.Common.{◌≡◌, ◌⊎◌, inl, inr, ℕ, zero, suc, ◌+◌, ◌-◌, ◌*◌, ◌/◌, ◌%◌, ◌^◌, ◌<◌, ◌≤◌, ℤ, pos, List, [], ◌∷◌, ◌++◌, length, get_or, take, drop, set, refl, sym, ap, subst, ◌∙◌, arith, append_assoc, take-append-drop, length-append, length-drop, length-take-le, take-add, Contains}
use Rattle.std.proofs.lemmas.List.{take_at, drop_at, drop-drop}
use Rattle.std.proofs.lemmas.Int.{ints}
use Rattle.fx_model.proofs.Wide.{is_word_from}
use Rattle.fx_model.specs.Tree.{at}
use Rattle.fx_model.specs.Machine.{IsWord}
use Rattle.fx_model.specs.LawfulProgram.{widths}
use Rattle.fx_statements.specs.RustMeaning.{wrapped}
use Rattle.fx_statements.specs.Laws.{WrappedLaw}
use Rattle.fx_mixed.specs.Packed.{bytes_of, two_complement, packed_word, number_of, first_word, unpacked, place_of, size_of, PlaceLaw, AgainLaw}
use Rattle.fx_mixed.proofs.Complements.{in_bytes, first_again, bytes_counted, sign_again, number_short}

here : (ns bs : List ℕ) (k : ℕ) → k < length ns →
    at (pos 0) (unpacked ns bs) k ≡ first_word (at 0 ns k) (drop (place_of ns k) bs)
here [] bs k lt = absurd (omega arith)
here (n ∷ ns) bs zero lt = refl
here (n ∷ ns) bs (suc k) lt =
    here ns (drop (n / 8) bs) k (omega arith) ∙ ap (first_word (at 0 ns k)) (drop-drop (place_of ns k) (n / 8) bs)

within : (ns : List ℕ) (k : ℕ) → k < length ns → place_of ns k + at 0 ns k / 8 ≤ size_of ns
within [] k lt = absurd (omega arith)
within (n ∷ ns) zero lt = omega arith
within (n ∷ ns) (suc k) lt = let h = within ns k (omega arith) in omega arith

-- behind the first a bytes
later : (a p q : ℕ) (bs x : List ℕ) →
    take (a + p) bs ++ x ++ drop (a + q) bs ≡ take a bs ++ (take p (drop a bs) ++ x ++ drop q (drop a bs))
later a p q bs x =
    ap (λ t. t ++ x ++ drop (a + q) bs) (take-add a p bs)
    ∙ ap (λ t. take a bs ++ take p (drop a bs) ++ x ++ t) (sym (drop-drop q a bs))
    ∙ tail (take a bs) (take p (drop a bs)) x (drop q (drop a bs))
  where
    tail : (u v x y : List ℕ) → (u ++ v) ++ x ++ y ≡ u ++ (v ++ x ++ y)
    tail u v x y = simp append_assoc

written : WrappedLaw → (ns bs : List ℕ) (k : ℕ) (w : ℤ) → ((j : ℕ) → j < length ns → Contains widths (at 0 ns j)) →
    size_of ns ≤ length bs → k < length ns → IsWord (at 0 ns k) w
    → unpacked ns (take (place_of ns k) bs ++ packed_word (at 0 ns k) w ++ drop (place_of ns k + at 0 ns k / 8) bs)
    ≡ set (unpacked ns bs) k w
written law [] bs k w known le lt h = absurd (omega arith)
written law (n ∷ ns) bs zero w known le lt h =
    let x = packed_word n w in let rest = drop (0 + n / 8) bs in
    let e : 0 + n / 8 ≡ n / 8 = omega arith in
    let first = first_again law n w rest (known 0 (omega arith)) h in
    let behind = drop_at x rest (n / 8) (bytes_counted (n / 8) (two_complement n w)) ∙ ap (λ (m : ℕ). drop m bs) e in
    λ i. first i ∷ unpacked ns (behind i)
written law (n ∷ ns) bs (suc k) w known le lt h =
    let a = n / 8 in let m = at 0 ns k in let p = place_of ns k in
    let x = packed_word m w in
    let q : (a + p) + m / 8 ≡ a + (p + m / 8) = omega arith in
    let whole : take (a + p) bs ++ x ++ drop ((a + p) + m / 8) bs ≡ take a bs
    ++ (take p (drop a bs) ++ x ++ drop (p + m / 8) (drop a bs)) =
    ap (λ (j : ℕ). take (a + p) bs ++ x ++ drop j bs) q ∙ later a p (p + m / 8) bs x in
    let many : length (take a bs) ≡ a = length-take-le a bs (omega arith) in
    let inner = take p (drop a bs) ++ x ++ drop (p + m / 8) (drop a bs) in
    let same : take a (take a bs ++ inner) ≡ take a bs = take_at (take a bs) inner a many in
    let rest : drop a (take a bs ++ inner) ≡ inner = drop_at (take a bs) inner a many in
    let short : size_of ns ≤ length (drop a bs) = let d = length-drop a bs in omega arith in
    ap (unpacked (n ∷ ns)) whole
    ∙ (λ i. wrapped n (pos (number_of (same i))) ∷ unpacked ns (rest i))
    ∙ ap (λ us. first_word n bs ∷ us)
    (written law ns (drop a bs) k w (λ j lt. known (suc j) (omega arith)) short (omega arith) h)

pub places : WrappedLaw → PlaceLaw
places law ns bs k known le lt =
    record { here = here ns bs k lt; within = within ns k lt; written = λ w h. written law ns bs k w known le lt h }

-- ---- packed again
number_packed : (k : ℕ) (bs : List ℕ) → length bs ≡ k → ((i : ℕ) → get_or bs i 0 < 256) → bytes_of k (number_of bs) ≡ bs
number_packed zero [] e fits = refl
number_packed zero (b ∷ bs) e fits = absurd (omega (arith, e))
number_packed (suc k) [] e fits = absurd (omega (arith, e))
number_packed (suc k) (b ∷ bs) e fits =
    let small = fits 0 in
    let low : (b + 256 * number_of bs) % 256 ≡ b = omega arith in
    let high : (b + 256 * number_of bs) / 256 ≡ number_of bs = omega arith in
    (λ i. low i ∷ bytes_of k (high i)) ∙ ap (λ t. b ∷ t) (number_packed k bs (omega (arith, e)) (λ i. fits (suc i)))

complement_of : WrappedLaw → (n u : ℕ) → Contains widths n → u < 2 ^ n → two_complement n (wrapped n (pos u)) ≡ u
complement_of law n u known small = by (first_or u (2 ^ (n - 1)))
  where
    first_or : (u h : ℕ) → (u < h) ⊎ (h ≤ u)
    first_or u h = grind arith

    by : (u < 2 ^ (n - 1)) ⊎ (2 ^ (n - 1) ≤ u) → two_complement n (wrapped n (pos u)) ≡ u
    by (inl below) =
        ap (two_complement n) ((law n (pos u) (in_bytes n known).some).1
        (is_word_from n (pos u) (record { low = omega (arith, ints); high = omega (arith, ints) })))
    by (inr above) = ap (two_complement n) (sign_again law n u known above small)
        ∙ (let e : 2 ^ n - suc (2 ^ n - 1 - u) ≡ u = omega arith in e)

taken_fits : (k : ℕ) (bs : List ℕ) → ((i : ℕ) → get_or bs i 0 < 256) → (i : ℕ) → get_or (take k bs) i 0 < 256
taken_fits zero bs fits i = omega arith
taken_fits (suc k) [] fits i = omega arith
taken_fits (suc k) (b ∷ bs) fits zero = fits 0
taken_fits (suc k) (b ∷ bs) fits (suc i) = taken_fits k bs (λ j. fits (suc j)) i

dropped_fits : (k : ℕ) (bs : List ℕ) → ((i : ℕ) → get_or bs i 0 < 256) → (i : ℕ) → get_or (drop k bs) i 0 < 256
dropped_fits zero bs fits i = fits i
dropped_fits (suc k) [] fits i = omega arith
dropped_fits (suc k) (b ∷ bs) fits i = dropped_fits k bs (λ j. fits (suc j)) i

pub packed_again : WrappedLaw → AgainLaw
packed_again law [] [] known e fits = refl
packed_again law [] (b ∷ bs) known e fits = absurd (omega (arith, e))
packed_again law (n ∷ ns) bs known e fits =
    let a = n / 8 in let front = take a bs in
    let many : length front ≡ a = length-take-le a bs (omega (arith, e)) in
    let good = taken_fits a bs fits in
    let b = in_bytes n (known 0 (omega arith)) in
    let small : number_of front < 2 ^ n =
    subst (λ (m : ℕ). number_of front < m) (ap (λ (m : ℕ). 256 ^ m) many ∙ b.bytes) (number_short front good) in
    let first : packed_word n (first_word n bs) ≡ front =
    ap (bytes_of a) (complement_of law n (number_of front) (known 0 (omega arith)) small)
    ∙ number_packed a front many good in
    let rest = packed_again law ns (drop a bs) (λ j lt. known (suc j) (omega arith)) (let d = length-drop a bs in
    omega (arith, e)) (dropped_fits a bs fits) in
    (λ i. first i ++ rest i) ∙ take-append-drop a bs

-- as many bytes as before
pub written_counted : (p n : ℕ) (bs : List ℕ) (w : ℤ) → p + n / 8 ≤ length bs →
    length (take p bs ++ packed_word n w ++ drop (p + n / 8) bs) ≡ length bs
written_counted p n bs w le =
    let a = length-take-le p bs (omega arith) in let b = bytes_counted (n / 8) (two_complement n w) in
    let d = length-drop (p + n / 8) bs in
    length-append (take p bs ++ packed_word n w) (drop (p + n / 8) bs)
    ∙ ap (λ (m : ℕ). m + length (drop (p + n / 8) bs)) (length-append (take p bs) (packed_word n w)) ∙ omega arith
