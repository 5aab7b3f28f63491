-- Binary places one by one, and what they make together with a whole part.
use Rattle.std.proofs.Common.{◌≡◌, ℕ, zero, suc, ◌+◌, ◌-◌, ◌*◌, ◌%◌, ◌^◌, ◌<◌, ◌≤◌, ◌==◌, Bool, true, false, ℤ, pos, negsuc, ◌+ℤ◌, ◌*ℤ◌, refl, sym, ap, ◌∙◌, arith}
use Rattle.std.specs.Prelude.{unsigned_abs}
use Rattle.std.proofs.Math.Pow.{pow_mono}
use Rattle.std.proofs.lemmas.Int.{ints}
use Rattle.std.proofs.lemmas.Nat.{div-add-mod', mod_below}
use Rattle.fx_rational.specs.Rational.{floor_div}
use Rattle.fx_rational.specs.Dyadic.{dyadic, fits_128}
use Rattle.fx_rational.proofs.Fits.{fits_in}
use Rattle.fx_rational.proofs.Floors.{floor_is}
use Rattle.fx_outward.specs.Grid.{is_even, is_small, lowest_dyadic}
use Rattle.fx_outward.proofs.Grids.{half_of}
use Rattle.fx_outward.proofs.Spelling.{even_double, doubled, trim_odd}

-- ---- one place more
pub place_zero : (r p q f d l : ℕ) → q ≡ p + p → r * p ≡ f * d + l → r * q ≡ (f + f) * d + (l + l)
place_zero r p q f d l e h = rw e (omega (arith, h))

pub place_one : (r p q f d l : ℕ) → q ≡ p + p → r * p ≡ f * d + l → d ≤ l + l → r * q ≡ (f + f + 1) * d + ((l + l) - d)
place_one r p q f d l e h k = let back : d + ((l + l) - d) ≡ l + l = omega (arith, k) in rw e (omega (arith, h, back))

-- ---- an even number
pub halves : (h : ℤ) → floor_div (h *ℤ pos 2) 2 ≡ h
halves h =
    let f = floor_is (h *ℤ pos 2) 2 (omega arith) in
    let p = f.not_above in
    let q = f.greatest in
    omega (arith, ints, p, q)

odd_test : (f : ℕ) → (f % 2 == 0) ≡ false → f % 2 ≡ 1
odd_test f h =
    let l = mod_below f 2 (omega arith) in
    let z : (f % 2 ≡ 0 → ⊥) = λ e. absurd (grind (arith, h, e)) in
    grind (arith, l, z)

pub is_even_double : (h : ℤ) → is_even (h *ℤ pos 2) ≡ true
is_even_double h = let e = even_double h in rw e refl

-- ---- an odd one
odd_whole : (w : ℤ) (f s : ℕ) → 0 < s → (f % 2 == 0) ≡ false → is_even (w *ℤ pos (2 ^ s) +ℤ pos f) ≡ false
odd_whole w f zero h e = absurd (omega (arith, h))
odd_whole w f (suc t) h e = by (is_even (w *ℤ pos (2 ^ suc t) +ℤ pos f)) refl
  where
    by : (b : Bool) → is_even (w *ℤ pos (2 ^ suc t) +ℤ pos f) ≡ b → b ≡ false
    by false k = refl
    by true k = absurd (
        let half = half_of (w *ℤ pos (2 ^ suc t) +ℤ pos f) k in let g = doubled w t in let o = odd_test f e in
        let d = div-add-mod' f 2 in
        omega (arith, ints, half, g, o, d)
        )

pub odd_step : (w : ℤ) (f s e : ℕ) → 0 < s → s ≤ e → (f % 2 == 0) ≡ false →
    dyadic (w *ℤ pos (2 ^ s) +ℤ pos f) e ≡ lowest_dyadic (w *ℤ pos (2 ^ s) +ℤ pos f) e
odd_step w f s e some le odd =
    trim_odd (w *ℤ pos (2 ^ s) +ℤ pos f) e (omega (arith, some, le)) (odd_whole w f s some odd)

-- ---- what doesn't fit isn't short
long_of : (m : ℤ) (e : ℕ) → (unsigned_abs m < 2 ^ 62 → ⊥) → is_small (dyadic m e) ≡ false
long_of (pos zero) e h = absurd (h (omega arith))
long_of (pos (suc n)) e h = grind (arith, h)
long_of (negsuc n) e h = grind (arith, h)

small_in : (m : ℤ) → unsigned_abs m < 2 ^ 62 → fits_128 m ≡ true
small_in (pos n) l = fits_in (pos n) (record { low = omega (arith, ints); high = omega (arith, ints, l) })
small_in (negsuc n) l = fits_in (negsuc n) (record { low = omega (arith, ints, l); high = omega (arith, ints) })

pub long_sum : (w : ℤ) (f s e : ℕ) → 0 < s → s ≤ e → (f % 2 == 0) ≡ false →
    (fits_128 (w *ℤ pos (2 ^ s) +ℤ pos f) ≡ true → ⊥) → is_small (lowest_dyadic (w *ℤ pos (2 ^ s) +ℤ pos f) e) ≡ false
long_sum w f s e some le odd out =
    ap is_small (sym (odd_step w f s e some le odd))
    ∙ long_of (w *ℤ pos (2 ^ s) +ℤ pos f) e (λ l. out (small_in (w *ℤ pos (2 ^ s) +ℤ pos f) l))

near_in : (m n : ℤ) (f : ℕ) → m +ℤ pos f ≡ n → f < 2 ^ 126 → unsigned_abs n < 2 ^ 62 → fits_128 m ≡ true
near_in m (pos n) f e k l =
    fits_in m (record { low = omega (arith, ints, e, k, l); high = omega (arith, ints, e, k, l) })
near_in m (negsuc n) f e k l =
    fits_in m (record { low = omega (arith, ints, e, k, l); high = omega (arith, ints, e, k, l) })

pub long_left : (w : ℤ) (f s e : ℕ) → 0 < s → s ≤ 126 → s ≤ e → f < 2 ^ s → (f % 2 == 0) ≡ false →
    (fits_128 (w *ℤ pos (2 ^ s)) ≡ true → ⊥) → is_small (lowest_dyadic (w *ℤ pos (2 ^ s) +ℤ pos f) e) ≡ false
long_left w f s e some few le small odd out =
    let p : 2 ^ s ≤ 2 ^ 126 = pow_mono few in
    ap is_small (sym (odd_step w f s e some le odd))
    ∙ long_of (w *ℤ pos (2 ^ s) +ℤ pos f) e
    (λ l. out (near_in (w *ℤ pos (2 ^ s)) (w *ℤ pos (2 ^ s) +ℤ pos f) f refl (omega (arith, small, p)) l))
