-- Bytes and the numbers that they stand for.
use Rattle.std.proofs.Common.{◌≡◌, ℕ, zero, suc, ◌+◌, ◌-◌, ◌*◌, ◌/◌, ◌^◌, ◌<◌, ◌≤◌, ℤ, pos, negsuc, ◌+ℤ◌, ◌-ℤ◌, ◌*ℤ◌, neg_ℤ, ◌≤ℤ◌, ◌<ℤ◌, List, [], ◌∷◌, ◌++◌, length, refl, sym, ap, subst, ◌∙◌, arith, pow_pos, pow-add, pow-suc, All, Contains, get_or, lit≤, to_z, of_z}
use Rattle.std.proofs.lemmas.Int.{ints}
use Rattle.std.proofs.lemmas.List.{take_at, drop_at}
use Rattle.std.proofs.lemmas.List.Elements.{All-nil, All-cons, All-contains}
use Rattle.fx_rational.proofs.Integers.{neg_ℤ-*ℤ, one-*ℤ}
use Rattle.fx_rational.proofs.Order.{lt_of_mul}
use Rattle.fx_rational.proofs.Quote.{by_quotes, quotes}
use Rattle.fx_statements.specs.Laws.{WrappedLaw}
use Rattle.fx_model.specs.Machine.{IsWord}
use Rattle.fx_model.specs.LawfulProgram.{widths}
use Rattle.fx_model.proofs.Wide.{Held, held, is_word_from}
use Rattle.fx_model.proofs.Widths.{width_of}
use Rattle.std.specs.Int.{w64}
use Rattle.std.proofs.Math.Nat.{pow-le-pow_right}
use Rattle.fx_statements.specs.RustMeaning.{wrapped}
use Rattle.fx_mixed.specs.Packed.{bytes_of, two_complement, packed_word, packed, number_of, first_word, unpacked, PackedLaw}

pub bytes_counted : (k u : ℕ) → length (bytes_of k u) ≡ k
bytes_counted zero u = refl
bytes_counted (suc k) u = ap suc (bytes_counted k (u / 256))

-- bytes stand for the number that they were made of
number_again : (k u : ℕ) → u < 256 ^ k → number_of (bytes_of k u) ≡ u
number_again zero u lt = let l : u < 1 = lt in omega arith
number_again (suc k) u lt =
    let n = number_again k (u / 256) (less (256 ^ k) u (subst (λ (m : ℕ). u < m) (pow-suc 256 k) lt)) in
    omega (arith, n)
  where
    less : (m u : ℕ) → u < 256 ^ k * 256 → u / 256 < 256 ^ k
    less m u h = omega arith

-- ---- two's complement
-- each of the widths is a number of bytes
pub record InBytes (n : ℕ) : Type 0 where
  pub some : 1 ≤ n
  pub bytes : 256 ^ (n / 8) ≡ 2 ^ n

pub in_bytes : (n : ℕ) → Contains widths n → InBytes n
in_bytes n h = All-contains InBytes widths n all h
  where
    b : (m : ℕ) → 1 ≤ m → 256 ^ (m / 8) ≡ 2 ^ m → InBytes m
    b m p q = record { some = p; bytes = q }

    all : All InBytes widths
    all =
        All-cons InBytes 8 (16 ∷ 24 ∷ 32 ∷ 40 ∷ 48 ∷ 56 ∷ 64 ∷ []) (b 8 (omega arith) refl)
        (All-cons InBytes 16 (24 ∷ 32 ∷ 40 ∷ 48 ∷ 56 ∷ 64 ∷ []) (b 16 (omega arith) refl)
        (All-cons InBytes 24 (32 ∷ 40 ∷ 48 ∷ 56 ∷ 64 ∷ []) (b 24 (omega arith) refl)
        (All-cons InBytes 32 (40 ∷ 48 ∷ 56 ∷ 64 ∷ []) (b 32 (omega arith) refl)
        (All-cons InBytes 40 (48 ∷ 56 ∷ 64 ∷ []) (b 40 (omega arith) refl)
        (All-cons InBytes 48 (56 ∷ 64 ∷ []) (b 48 (omega arith) refl)
        (All-cons InBytes 56 (64 ∷ []) (b 56 (omega arith) refl)
        (All-cons InBytes 64 ([]) (b 64 (omega arith) refl) (All-nil InBytes))))))))

two_halves : (n : ℕ) → 1 ≤ n → 2 ^ n ≡ 2 * 2 ^ (n - 1)
two_halves n h = let k : n ≡ 1 + (n - 1) = omega arith in ap (λ (j : ℕ). 2 ^ j) k ∙ pow-add 2 1 (n - 1)

complement_short : (n : ℕ) (w : ℤ) → 1 ≤ n → IsWord n w → two_complement n w < 2 ^ n
complement_short n w some h = by w (held n w h).low (held n w h).high (two_halves n some) (pow_pos (n - 1))
  where
    by : (w : ℤ) → neg_ℤ (pos (2 ^ (n - 1))) ≤ℤ w → w <ℤ pos (2 ^ (n - 1)) → 2 ^ n ≡ 2 * 2 ^ (n - 1) → 0 < 2 ^ (n - 1) →
        two_complement n w < 2 ^ n
    by (pos m) p q e l = omega (arith, ints)
    by (negsuc m) p q e l = omega (arith, ints)

-- two words that differ by a multiple of 2^n are one
one_word : (h d : ℕ) (r w t : ℤ) → d ≡ 2 * h → 0 < h → Held h r → Held h w → (w +ℤ pos d) ≡ (r +ℤ t *ℤ pos d) → r ≡ w
one_word h d r w t e some a b same =
    let al = a.low in let ah = a.high in let bl = b.low in let bh = b.high in
    let m = t *ℤ pos d in
    let one : (t -ℤ pos 1) *ℤ pos d ≡ m -ℤ pos d = minus_one t (pos d) in
    let two : pos 1 *ℤ pos d ≡ pos d = single (pos d) in let three : pos 0 *ℤ pos d ≡ pos 0 = none (pos d) in
    let four : negsuc 0 *ℤ pos d ≡ neg_ℤ (pos d) = minus (pos d) in
    let less : (t -ℤ pos 1) <ℤ pos 1 = lt_of_mul {c = pos d} (omega (arith, ints)) (omega (arith, ints)) in
    let more : negsuc 0 <ℤ (t -ℤ pos 1) = lt_of_mul {c = pos d} (omega (arith, ints)) (omega (arith, ints)) in
    let is : t ≡ pos 1 = omega (arith, ints) in
    let n : m ≡ pos d = ap (λ (x : ℤ). x *ℤ pos d) is ∙ two in
    omega (arith, ints)
  where
    minus_one : (t d : ℤ) → (t -ℤ pos 1) *ℤ d ≡ t *ℤ d -ℤ d
    minus_one t d = by_quotes {ρ = t ∷ d ∷ []} (search quotes depth 20) (search quotes depth 20) refl

    single : (d : ℤ) → pos 1 *ℤ d ≡ d
    single d = by_quotes {ρ = d ∷ []} (search quotes depth 20) (search quotes depth 20) refl

    none : (d : ℤ) → pos 0 *ℤ d ≡ pos 0
    none d = by_quotes {ρ = d ∷ []} (search quotes depth 20) (search quotes depth 20) refl

    minus : (d : ℤ) → negsuc 0 *ℤ d ≡ neg_ℤ d
    minus d = neg_ℤ-*ℤ (pos 1) d ∙ ap neg_ℤ (one-*ℤ d)

complement_again : WrappedLaw → (n : ℕ) (w : ℤ) → 1 ≤ n → IsWord n w → wrapped n (pos (two_complement n w)) ≡ w
complement_again law n (pos m) some h = (law n (pos m) some).1 h
complement_again law n (negsuc m) some h =
    let v = pos (2 ^ n - suc m) in let r = (law n v some).0 in
    one_word (2 ^ (n - 1)) (2 ^ n) (wrapped n v) (negsuc m) r.turns (two_halves n some) (pow_pos (n - 1))
    (held n (wrapped n v) r.word) (held n (negsuc m) h)
    (up (2 ^ n) m (complement_short n (negsuc m) some h) (suc_below m (held n (negsuc m) h).low (two_halves n some))
    ∙ r.same)
  where
    suc_below : (m : ℕ) → neg_ℤ (pos (2 ^ (n - 1))) ≤ℤ negsuc m → 2 ^ n ≡ 2 * 2 ^ (n - 1) → suc m ≤ 2 ^ n
    suc_below m p e = omega (arith, ints)

    up : (d m : ℕ) → d - suc m < d → suc m ≤ d → negsuc m +ℤ pos d ≡ pos (d - suc m)
    up d m lt le = omega (arith, ints)

-- a number of n bits from the half on stands for one below zero
pub sign_again : WrappedLaw → (n u : ℕ) → Contains widths n → 2 ^ (n - 1) ≤ u → u < 2 ^ n →
    wrapped n (pos u) ≡ negsuc (2 ^ n - 1 - u)
sign_again law n u known big small =
    let b = in_bytes n known in let m = 2 ^ n - 1 - u in
    let word : IsWord n (negsuc m) = below (two_halves n b.some) in
    let e : 2 ^ n - suc m ≡ u = omega arith in
    ap (λ (x : ℕ). wrapped n (pos x)) (sym e) ∙ complement_again law n (negsuc m) b.some word
  where
    below : 2 ^ n ≡ 2 * 2 ^ (n - 1) → IsWord n (negsuc (2 ^ n - 1 - u))
    below e = is_word_from n (negsuc (2 ^ n - 1 - u)) (record { low = omega (arith, ints); high = omega (arith, ints) })

-- as the code comes to it
pub turned : (g u m n : ℕ) → Contains widths n → g ≡ 2 ^ n - 1 → 2 ^ (n - 1) ≤ u → u < 2 ^ n → m ≡ 2 ^ n - 1 - u →
    to_z w64 (of_z w64 (negsuc 0 -ℤ to_z w64 (g - u))) ≡ negsuc m
turned g u m n known e big small is =
    by (g - u) m (omega arith) (less (two_halves n (in_bytes n known).some) (top (in_bytes n known)))
  where
    top : InBytes n → 2 ^ (n - 1) ≤ 2 ^ 63
    top b = pow-le-pow_right {n = 2} (lit≤ tt) (let w = width_of n known in let t = w.most in
        let s : n - 1 ≤ 63 = omega arith in s)

    less : 2 ^ n ≡ 2 * 2 ^ (n - 1) → 2 ^ (n - 1) ≤ 2 ^ 63 → m < 2 ^ 63
    less h t = omega arith

    by : (r m : ℕ) → r ≡ m → m < 2 ^ 63 → to_z w64 (of_z w64 (negsuc 0 -ℤ to_z w64 r)) ≡ negsuc m
    by r m e lt = omega (arith, ints)

-- bytes stand for a number below 256 to their count
pub number_short : (bs : List ℕ) → ((i : ℕ) → get_or bs i 0 < 256) → number_of bs < 256 ^ length bs
number_short [] fits = omega arith
number_short (b ∷ bs) fits =
    let first = fits 0 in let rest = number_short bs (λ i. fits (suc i)) in
    subst (λ (m : ℕ). b + 256 * number_of bs < m) (sym (pow-suc 256 (length bs)))
    (up (256 ^ length bs) (number_of bs) b first rest)
  where
    up : (p n b : ℕ) → b < 256 → n < p → b + 256 * n < p * 256
    up p n b h k = omega arith

-- ---- a list of words
pub first_again : WrappedLaw → (n : ℕ) (w : ℤ) (rest : List ℕ) → Contains widths n → IsWord n w →
    first_word n (packed_word n w ++ rest) ≡ w
first_again law n w rest known h =
    let b = in_bytes n known in
    ap (λ (bs : List ℕ). wrapped n (pos (number_of bs)))
    (take_at (packed_word n w) rest (n / 8) (bytes_counted (n / 8) (two_complement n w)))
    ∙ ap (λ (u : ℕ). wrapped n (pos u))
    (number_again (n / 8) (two_complement n w)
    (subst (λ (m : ℕ). two_complement n w < m) (sym b.bytes) (complement_short n w b.some h)))
    ∙ complement_again law n w b.some h

pub again : WrappedLaw → PackedLaw
again law [] [] known many fits = refl
again law [] (w ∷ ws) known many fits = absurd (omega (arith, many))
again law (n ∷ ns) [] known many fits = absurd (omega (arith, many))
again law (n ∷ ns) (w ∷ ws) known many fits =
    let first = first_again law n w (packed ns ws) (known 0 (omega arith)) (fits 0 (omega arith)) in
    let behind = drop_at (packed_word n w) (packed ns ws) (n / 8) (bytes_counted (n / 8) (two_complement n w)) in
    let rest =
    again law ns ws (λ k lt. known (suc k) (omega arith)) (omega (arith, many))
    (λ k lt. fits (suc k) (omega arith)) in
    (λ i. first i ∷ unpacked ns (behind i)) ∙ ap (λ us. w ∷ us) rest
