-- Ends from wide divisions.
use Rattle.std.proofs.Common.{◌≡◌, ℕ, zero, suc, ◌+◌, ◌*◌, ◌/◌, ◌%◌, ◌^◌, ◌<◌, ltb, ◌==◌, Bool, true, false, if◌then◌else◌, ℤ, pos, ◌+ℤ◌, ◌-ℤ◌, ◌*ℤ◌, neg_ℤ, ◌≤ℤ◌, ◌<ℤ◌, ◌⊎◌, ⊎_elim, [], ◌∷◌, refl, sym, ap, ◌∙◌, arith}
use Rattle.std.proofs.lemmas.Int.{ints}
use Rattle.std.proofs.lemmas.Nat.{div-add-mod', mod_below}
use Rattle.fx_rational.proofs.Integers.{neg_ℤ-*ℤ, +ℤ-*ℤ}
use Rattle.fx_rational.proofs.Quote.{by_quotes, quotes}
use Rattle.fx_rational.specs.Rational.{floor_div, ceil_div}
use Rattle.fx_rational.specs.Dyadic.{Dyadic}
use Rattle.fx_rational.proofs.Floors.{le_floor, one_more_times}
use Rattle.fx_rational.proofs.Lowest.{size-neg_ℤ}
use Rattle.fx_outward.specs.Grid.{is_even, is_small, lowest_dyadic}
use Rattle.fx_outward.proofs.Grids.{half_of}

-- ---- a floor is known by what it leaves
apart : (a b : ℤ) → (a ≤ℤ b) ⊎ ((b +ℤ pos 1) ≤ℤ a)
apart a b = grind (arith, ints)

pub floor_only : (v q : ℤ) (d r : ℕ) → v ≡ q *ℤ pos d +ℤ pos r → r < d → floor_div v d ≡ q
floor_only v q d r e l =
    let above : pos 0 <ℤ pos d = omega (arith, ints, l) in
    let up : q ≤ℤ floor_div v d = (le_floor q v d above).1 (omega (arith, ints, e)) in
    ⊎_elim (λ (le : floor_div v d ≤ℤ q). omega (arith, ints, le, up))
    (λ (more : (q +ℤ pos 1) ≤ℤ floor_div v d). absurd (let k = (le_floor (q +ℤ pos 1) v d above).0 more in
    let m = one_more_times q (pos d) in omega (arith, ints, k, m, e, l)))
    (apart (floor_div v d) q)

spread : (w d p f R : ℤ) → (w *ℤ d) *ℤ p +ℤ (f *ℤ d +ℤ R) ≡ (w *ℤ p +ℤ f) *ℤ d +ℤ R
spread w d p f R = by_quotes {ρ = w ∷ d ∷ p ∷ f ∷ R ∷ []} (search quotes depth 20) (search quotes depth 20) refl

-- the whole part and the binary places
pub whole_places : (n w : ℤ) (d r p : ℕ) → n ≡ w *ℤ pos d +ℤ pos r → 0 < d →
    floor_div (n *ℤ pos p) d ≡ w *ℤ pos p +ℤ pos (r * p / d)
whole_places n w d r p e some =
    let f = r * p / d in let R = r * p % d in
    let back : f * d + R ≡ r * p = div-add-mod' (r * p) d in
    let parts : pos r *ℤ pos p ≡ pos f *ℤ pos d +ℤ pos R = ap pos (sym back) in
    floor_only (n *ℤ pos p) (w *ℤ pos p +ℤ pos f) d R
    (ap (λ (z : ℤ). z *ℤ pos p) e ∙ +ℤ-*ℤ (w *ℤ pos d) (pos r) (pos p)
    ∙ ap (λ (z : ℤ). (w *ℤ pos d) *ℤ pos p +ℤ z) parts ∙ spread w (pos d) (pos p) (pos f) (pos R))
    (mod_below (r * p) d some)

pub rest_sum : (n : ℤ) (d r : ℕ) → pos r ≡ n -ℤ floor_div n d *ℤ pos d → n ≡ floor_div n d *ℤ pos d +ℤ pos r
rest_sum n d r e = omega (arith, ints, e)

-- ---- the other sign
abbrev pub turned : Dyadic → Dyadic
turned d = record { m = neg_ℤ d.m; e = d.e }

even_neg : (m : ℤ) → is_even (neg_ℤ m) ≡ is_even m
even_neg m = ap (λ (k : ℕ). k % 2 == 0) (size-neg_ℤ m)

half_neg : (m : ℤ) → is_even m ≡ true → floor_div (neg_ℤ m) 2 ≡ neg_ℤ (floor_div m 2)
half_neg m h = let a = half_of m h in let b = half_of (neg_ℤ m) (even_neg m ∙ h) in omega (arith, ints, a, b)

pub trimmed_neg : (m : ℤ) (e : ℕ) → lowest_dyadic (neg_ℤ m) e ≡ turned (lowest_dyadic m e)
unfolding lowest_dyadic
trimmed_neg m zero = refl
trimmed_neg m (suc e) =
    ap (λ (t : Bool). if t then lowest_dyadic (floor_div (neg_ℤ m) 2) e
    else record { m = neg_ℤ m; e = suc e }) (even_neg m) ∙ by (is_even m) refl (trimmed_neg (floor_div m 2) e)
  where
    by : (t : Bool) → is_even m ≡ t →
        lowest_dyadic (neg_ℤ (floor_div m 2)) e ≡ turned (lowest_dyadic (floor_div m 2) e) →
        (if t then lowest_dyadic (floor_div (neg_ℤ m) 2) e else record { m = neg_ℤ m; e = suc e })
        ≡ turned (if t then lowest_dyadic (floor_div m 2) e else record { m = m; e = suc e })
    by true h half = ap (λ (z : ℤ). lowest_dyadic z e) (half_neg m h) ∙ half
    by false h half = refl

pub turned_short : (d : Dyadic) → is_small (turned d) ≡ is_small d
turned_short d = ap (λ (k : ℕ). ltb k (2 ^ 62)) (size-neg_ℤ d.m)

-- the ceiling is the floor of the other sign, with the other sign
pub ceiling_turned : (n : ℤ) (p d e : ℕ) →
    turned (lowest_dyadic (floor_div (neg_ℤ n *ℤ pos p) d) e) ≡ lowest_dyadic (ceil_div (n *ℤ pos p) d) e
ceiling_turned n p d e = sym (trimmed_neg (floor_div (neg_ℤ n *ℤ pos p) d) e)
    ∙ ap (λ (z : ℤ). lowest_dyadic (neg_ℤ (floor_div z d)) e) (neg_ℤ-*ℤ n (pos p))
