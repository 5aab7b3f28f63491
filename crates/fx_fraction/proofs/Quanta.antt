-- A decimal in units of a power of two.
use Rattle.std.proofs.Common.{◌≡◌, ℕ, zero, suc, pred, ◌*◌, ◌%◌, ◌^◌, ◌<◌, ◌≤◌, ℤ, pos, negsuc, ◌*ℤ◌, ◌≤ℤ◌, ◌<ℤ◌, List, [], ◌∷◌, get_or, FitsSigned, to_z, of_z, lit<, sym, ap, ◌∙◌, arith}
use Rattle.std.specs.Prelude.{unsigned_abs}
use Rattle.std.specs.Int.{w128}
use Rattle.std.proofs.Math.Nat.{pow-suc, pow-le-pow_right, one-le-pow, div-div-eq-div-mul, mul_comm}
use Rattle.std.proofs.lemmas.Nat.{pow_pos, pow_below, mul-lt}
use Rattle.std.proofs.lemmas.Int.{ints, fits_signed_mul, wrapping_mul_is, int_wrap_fits}
use Rattle.fx_rational.specs.Rational.{over, scaled, floor, floor_div}
use Rattle.fx_rational.proofs.Lowest.{suc_pred}
use Rattle.fx_rational.specs.Decimal.{Decimal, decimal_value, quantised}

-- `v << s`
pub shifted_left_is : (v : ℤ) (s : ℕ) → s < 127 → FitsSigned w128 v → FitsSigned w128 (v *ℤ pos (2 ^ s)) →
    to_z w128 ((of_z w128 v * 2 ^ s) % 2 ^ 128) ≡ v *ℤ pos (2 ^ s)
shifted_left_is v s lt f g =
    let p : FitsSigned w128 (pos (2 ^ s)) = record { sfits = pow_below s 127 lt } in
    wrapping_mul_is w128 v (pos (2 ^ s)) f p ∙ int_wrap_fits w128 (v *ℤ pos (2 ^ s)) g

pub two_up : (i j : ℕ) → i ≤ j → 2 ^ i ≤ 2 ^ j
two_up i j h = let two : 0 < 2 = omega arith in pow-le-pow_right {n = 2} two h

pub ten_small : (b : ℕ) → b ≤ 18 → 10 ^ b ≤ 10 ^ 18
ten_small b h = let ten : 0 < 10 = omega arith in pow-le-pow_right {n = 10} ten h

pub ten_pos : (b : ℕ) → 0 < 10 ^ b
ten_pos b = let p = one-le-pow b 10 (omega arith) in omega arith

pub up_fits : (a x : ℤ) (s : ℕ) → unsigned_abs a < 2 ^ 62 → s ≤ 62 → x ≡ a → FitsSigned w128 (x *ℤ pos (2 ^ s))
up_fits a x s h le e =
    rw e (fits_signed_mul w128 a (pos (2 ^ s)) (2 ^ 62) (2 ^ 62) (omega arith) (two_up s 62 le) (lit< tt))

-- two divisions are one by the product
floor_twice : (a : ℤ) (m n : ℕ) → floor_div (floor_div a m) n ≡ floor_div a (m * n)
floor_twice (pos k) m n = ap pos (div-div-eq-div-mul k m n)
floor_twice (negsuc k) m n = ap negsuc (div-div-eq-div-mul k m n)

pub quantised_low : (d : Decimal) (f : ℤ) (s : ℕ) → f <ℤ pos 0 → s ≡ unsigned_abs f →
    floor_div (floor_div d.a (2 ^ s)) (10 ^ d.b) ≡ quantised d f
unfolding quantised scaled floor decimal_value over
quantised_low d (pos k) s below g = absurd (omega (arith, ints))
quantised_low d (negsuc k) s below g =
    let p : suc (pred (10 ^ d.b)) ≡ 10 ^ d.b = suc_pred (10 ^ d.b) (ten_pos d.b) in
    let q : 0 < suc (pred (10 ^ d.b)) * 2 ^ suc k =
    mul-lt 0 0 (suc (pred (10 ^ d.b))) (2 ^ suc k) (omega arith) (pow_pos (suc k)) in
    floor_twice d.a (2 ^ s) (10 ^ d.b)
    ∙ ap (floor_div d.a) (mul_comm (2 ^ s) (10 ^ d.b) ∙ (λ i. sym p i * 2 ^ (g i))
    ∙ sym (suc_pred (suc (pred (10 ^ d.b)) * 2 ^ suc k) q))

pub quantised_high : (d : Decimal) (f : ℤ) (s : ℕ) → pos 0 ≤ℤ f → s ≡ unsigned_abs f →
    floor_div (d.a *ℤ pos (2 ^ s)) (10 ^ d.b) ≡ quantised d f
unfolding quantised scaled floor decimal_value over
quantised_high d (pos k) s above g =
    rw g (ap (floor_div (d.a *ℤ pos (2 ^ k))) (sym (suc_pred (10 ^ d.b) (ten_pos d.b))))
quantised_high d (negsuc k) s above g = absurd (omega (arith, ints))

-- x, 10x, 100x ..
abbrev powers : ℕ → ℕ → List ℕ
powers x zero = []
powers x (suc n) = x ∷ powers (x * 10) n

powers_at : (x n i : ℕ) → i < n → get_or (powers x n) i 0 ≡ x * 10 ^ i
powers_at x zero i h = absurd (omega arith)
powers_at x (suc n) zero h = omega arith
powers_at x (suc n) (suc i) h = powers_at (x * 10) n i (omega arith) ∙ rw (pow-suc 10 i) (omega arith)

pub tens_at : (i : ℕ) → i < 19 → get_or (powers 1 19) i 0 ≡ 10 ^ i
tens_at i h = powers_at 1 19 i h ∙ omega arith
