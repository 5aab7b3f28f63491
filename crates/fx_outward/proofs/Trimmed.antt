-- A mantissa is brought to lowest terms by one shift: as often as it can be halved, and as places allow.
use Rattle.std.proofs.Common.{◌≡◌, ℕ, zero, suc, ◌-◌, ◌*◌, ◌%◌, ◌^◌, ◌<◌, ◌≤◌, ◌⊎◌, inl, inr, ⊎_elim, min, false, ℤ, pos, negsuc, ◌+ℤ◌, ◌*ℤ◌, neg_ℤ, ◌==◌, [], ◌∷◌, refl, sym, ap, ap₂, ◌∙◌, arith}
use Rattle.std.specs.Prelude.{unsigned_abs}
use Rattle.std.specs.Int.{w128, trailing_zeros}
use Rattle.std.proofs.lemmas.Int.{ints}
use Rattle.std.proofs.Math.Pow.{pow_mono}
use Rattle.std.proofs.lemmas.Nat.{pow_pos}
use Rattle.fx_rational.proofs.Integers.{neg_ℤ-*ℤ}
use Rattle.fx_rational.proofs.Quote.{by_quotes, quotes}
use Rattle.fx_rational.specs.Rational.{floor_div}
use Rattle.fx_rational.specs.Dyadic.{dyadic}
use Rattle.fx_rational.proofs.Lowest.{size-neg_ℤ}
use Rattle.fx_outward.specs.Grid.{is_even, lowest_dyadic}
use Rattle.fx_outward.proofs.Ends.{floor_only}
use Rattle.fx_outward.proofs.Halves.{halves, is_even_double}
use Rattle.fx_fraction.proofs.Halvings.{halved, split_power}
use Rattle.fx_outward.proofs.Spelling.{doubled, trim_zero, trim_even, trim_odd}

-- a whole number of this size
signed : (m : ℤ) (r p : ℕ) → unsigned_abs m ≡ r * p → (z : ℤ) × (m ≡ z *ℤ pos p) × (unsigned_abs z ≡ r)
signed (pos n) r p e = (pos r, ap pos e, refl)
signed (negsuc n) r p e =
    (neg_ℤ (pos r), ap (λ (k : ℕ). neg_ℤ (pos k)) e ∙ sym (neg_ℤ-*ℤ (pos r) (pos p)), size-neg_ℤ (pos r))

odd_not_even : (z : ℤ) (r : ℕ) → unsigned_abs z ≡ r → r % 2 ≡ 1 → is_even z ≡ false
odd_not_even z r e odd = let one : unsigned_abs z % 2 ≡ 1 = ap (λ (k : ℕ). k % 2) e ∙ odd in ap (λ (k : ℕ). k == 0) one

-- ---- in lowest terms
-- as many halvings as places cost
trim_times : (z : ℤ) (t e : ℕ) → t ≤ e → lowest_dyadic z (e - t) ≡ lowest_dyadic (z *ℤ pos (2 ^ t)) e
trim_times z zero e l = let one : z *ℤ pos (2 ^ 0) ≡ z = omega (arith, ints) in let all : e - 0 ≡ e = omega arith in
    ap (lowest_dyadic z) all ∙ ap (λ (y : ℤ). lowest_dyadic y e) (sym one)
trim_times z (suc t) e l =
    let h = z *ℤ pos (2 ^ t) in let less : e - suc t ≡ (e - 1) - t = omega arith in
    ap (lowest_dyadic z) less ∙ trim_times z t (e - 1) (omega (arith, l))
    ∙ ap (λ (y : ℤ). lowest_dyadic y (e - 1)) (sym (halves h))
    ∙ trim_even (h *ℤ pos 2) e (omega (arith, l)) (is_even_double h)
    ∙ ap (λ (y : ℤ). lowest_dyadic y e) (sym (doubled z t))

lowest_zero : (e : ℕ) → dyadic (pos 0) e ≡ lowest_dyadic (pos 0) e
unfolding lowest_dyadic
lowest_zero zero = refl
lowest_zero (suc e) = lowest_zero e

-- where no halving is left, or no place
ended : (z : ℤ) (e : ℕ) → (e ≡ 0) ⊎ ((is_even z ≡ false) ⊎ (z ≡ pos 0)) → dyadic z e ≡ lowest_dyadic z e
ended z e (inl none) = ap (dyadic z) none ∙ trim_zero z e none
ended z zero (inr h) = trim_zero z 0 refl
ended z (suc e) (inr (inl odd)) = trim_odd z (suc e) (omega arith) odd
ended z (suc e) (inr (inr none)) =
    ap (λ (y : ℤ). dyadic y (suc e)) none ∙ lowest_zero (suc e) ∙ ap (λ (y : ℤ). lowest_dyadic y (suc e)) (sym none)

pub trimmed : (m : ℤ) (s e : ℕ) → unsigned_abs m < 2 ^ 128 → s ≡ min (trailing_zeros w128 (unsigned_abs m)) e →
    dyadic (floor_div m (2 ^ s)) (e - s) ≡ lowest_dyadic m e
trimmed m s e few least =
    let zeros = trailing_zeros w128 (unsigned_abs m) in
    let h = halved 128 (unsigned_abs m) s (omega (arith, least)) in
    let i = signed m h.rest (2 ^ s) h.is in let z = i.0 in
    let floor : floor_div m (2 ^ s) ≡ z = floor_only m z (2 ^ s) 0 (omega (arith, ints, i.1)) (pow_pos s) in
    let end : (e - s ≡ 0) ⊎ ((is_even z ≡ false) ⊎ (z ≡ pos 0)) = ⊎_elim
    (λ (l : e ≤ zeros). inl (omega (arith, least, l)))
    (λ (l : zeros < e). inr (⊎_elim
    (λ (k : s < 128). inl (odd_not_even z h.rest i.2 (h.odd (omega (arith, least, l)) k)))
    (λ (k : 128 ≤ s). inr (nothing z h.rest i.2 (none h.rest (unsigned_abs m) s h.is few k)))
    (before s 128)))
    (up_to e zeros)
    in
    ap (λ (y : ℤ). dyadic y (e - s)) floor ∙ ended z (e - s) end ∙ trim_times z s e (omega (arith, least))
    ∙ ap (λ (y : ℤ). lowest_dyadic y e) (sym i.1)
  where
    up_to : (a b : ℕ) → (a ≤ b) ⊎ (b < a)
    up_to a b = grind arith

    before : (a b : ℕ) → (a < b) ⊎ (b ≤ a)
    before a b = grind arith

    nothing : (z : ℤ) (r : ℕ) → unsigned_abs z ≡ r → r ≡ 0 → z ≡ pos 0
    nothing (pos n) r e k = ap pos (omega (arith, e, k))
    nothing (negsuc n) r e k = absurd (omega (arith, e, k))

    none : (r n s : ℕ) → n ≡ r * 2 ^ s → n < 2 ^ 128 → 128 ≤ s → r ≡ 0
    none zero n s e l k = refl
    none (suc r) n s e l k = absurd (let p : 2 ^ 128 ≤ 2 ^ s = pow_mono k in omega (arith, e, l, p))

-- ---- a whole part and places that end in zeros
joined_times : (w q a b : ℤ) → (w *ℤ a +ℤ q) *ℤ b ≡ w *ℤ (a *ℤ b) +ℤ q *ℤ b
joined_times w q a b = by_quotes {ρ = w ∷ q ∷ a ∷ b ∷ []} (search quotes depth 20) (search quotes depth 20) refl

pub fewer_places : (w : ℤ) (f q t s e : ℕ) → t ≤ s → s ≤ e → f ≡ q * 2 ^ t →
    lowest_dyadic (w *ℤ pos (2 ^ (s - t)) +ℤ pos q) (e - t) ≡ lowest_dyadic (w *ℤ pos (2 ^ s) +ℤ pos f) e
fewer_places w f q t s e fits low is =
    trim_times (w *ℤ pos (2 ^ (s - t)) +ℤ pos q) t e (omega (arith, fits, low))
    ∙ ap (λ (z : ℤ). lowest_dyadic z e) (joined_times w (pos q) (pos (2 ^ (s - t))) (pos (2 ^ t))
    ∙ ap₂ (λ (k n : ℕ). w *ℤ pos k +ℤ pos n) (split_power t s fits) (sym is))

-- no places
pub no_places : (w : ℤ) (f q s e : ℕ) → f < 2 ^ s → s ≤ e → f ≡ q * 2 ^ s →
    lowest_dyadic w (e - s) ≡ lowest_dyadic (w *ℤ pos (2 ^ s) +ℤ pos f) e
no_places w f zero s e few low is = trim_times w s e low ∙ ap (λ (z : ℤ). lowest_dyadic z e) (omega (arith, ints, is))
no_places w f (suc q) s e few low is = absurd (omega (arith, few, is))

pub odd_left : (q : ℕ) → q % 2 ≡ 1 → (q % 2 == 0) ≡ false
odd_left q odd = ap (λ (k : ℕ). k == 0) odd
