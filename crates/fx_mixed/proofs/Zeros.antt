-- Where words begin, one after the other, and words of 0.
use Rattle.std.proofs.Common.{◌≡◌, ℕ, zero, suc, ◌+◌, ◌-◌, ◌*◌, ◌/◌, ◌<◌, ◌≤◌, pos, List, [], ◌∷◌, ◌++◌, length, replicate, refl, sym, ap, ◌∙◌, arith, pow_pos}
use Rattle.std.proofs.lemmas.Int.{ints}
use Rattle.std.proofs.lemmas.List.{length-replicate, replicate-append-replicate}
use Rattle.fx_model.specs.Tree.{at}
use Rattle.fx_model.specs.Machine.{IsWord}
use Rattle.fx_model.proofs.Wide.{is_word_from}
use Rattle.fx_model.proofs.Widths.{width_of}
use Rattle.fx_mixed.specs.Packed.{AreKnown, PackedLaw, bytes_of, packed, place_of, size_of, unpacked}

-- a word begins where the one before it ends
pub place_next : (ns : List ℕ) (k : ℕ) → k < length ns → place_of ns (k + 1) ≡ place_of ns k + at 0 ns k / 8
place_next [] k lt = absurd (omega arith)
place_next (n ∷ []) zero lt = omega arith
place_next (n ∷ m ∷ ns) zero lt = omega arith
place_next (n ∷ ns) (suc k) lt =
    let e : suc k + 1 ≡ suc (k + 1) = omega arith in
    ap (place_of (n ∷ ns)) e ∙ (let h = place_next ns k (omega arith) in omega arith)

-- the last ends where all end
pub place_last : (ns : List ℕ) → place_of ns (length ns) ≡ size_of ns
place_last [] = refl
place_last (n ∷ ns) = ap (λ (m : ℕ). n / 8 + m) (place_last ns)

-- at most eight bytes a word
pub place_small : (ns : List ℕ) (k : ℕ) → AreKnown ns → k ≤ length ns → place_of ns k ≤ 8 * k
place_small [] k known le = omega arith
place_small (n ∷ ns) zero known le = omega arith
place_small (n ∷ ns) (suc k) known le =
    let w = (width_of n (known 0 (omega arith))).most in
    let h = place_small ns k (λ j lt. known (suc j) (omega arith)) (omega arith) in omega arith

-- ---- words of 0
zero_bytes : (k : ℕ) → bytes_of k 0 ≡ replicate k 0
zero_bytes zero = refl
zero_bytes (suc k) = ap (λ bs. 0 ∷ bs) (zero_bytes k)

zeros_packed : (ns : List ℕ) → packed ns (replicate (length ns) (pos 0)) ≡ replicate (size_of ns) 0
zeros_packed [] = refl
zeros_packed (n ∷ ns) =
    ap (λ bs. bs ++ packed ns (replicate (length ns) (pos 0))) (zero_bytes (n / 8))
    ∙ ap (λ bs. replicate (n / 8) 0 ++ bs) (zeros_packed ns)
    ∙ replicate-append-replicate (n / 8) (size_of ns) 0

zero_word : (n : ℕ) → IsWord n (pos 0)
zero_word n =
    let p = pow_pos (n - 1) in is_word_from n (pos 0) (record { low = omega (arith, ints); high = omega (arith, ints) })

zero_at : (m k : ℕ) → at (pos 0) (replicate m (pos 0)) k ≡ pos 0
zero_at zero k = refl
zero_at (suc m) zero = refl
zero_at (suc m) (suc k) = zero_at m k

-- bytes of 0 are words of 0
pub zeros_unpacked : PackedLaw → (ns : List ℕ) → AreKnown ns →
    unpacked ns (replicate (size_of ns) 0) ≡ replicate (length ns) (pos 0)
zeros_unpacked law ns known =
    ap (unpacked ns) (sym (zeros_packed ns))
    ∙ law ns (replicate (length ns) (pos 0)) known (length-replicate (length ns) (pos 0))
    (λ k lt. let e = zero_at (length ns) k in rw e (zero_word (at 0 ns k)))
