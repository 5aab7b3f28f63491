-- Shifts of whole numbers of 128 bits by any amount.
use Rattle.std.proofs.Common.{◌≡◌, ℕ, zero, suc, ◌+◌, ◌-◌, ◌*◌, ◌/◌, ◌%◌, ◌^◌, ◌<◌, ◌≤◌, refl, sym, ap, ◌∙◌, arith, pos, negsuc, ℤ, ◌*ℤ◌, neg_ℤ, ◌≤ℤ◌, ◌<ℤ◌, FitsSigned, to_z, of_z, lit<}
use Rattle.std.specs.Int.{w64, w128}
use Rattle.std.proofs.Math.Pow.{pow_mono}
use Rattle.std.proofs.lemmas.Int.{ints, to_z-of_z, to_z_pos}
use Rattle.std.proofs.lemmas.Nat.{pow_pos, pow_below, pow-add, shr_below, shl-shr, div-add-mod', mod_below, shr_le, mul-le, mod-mul-add}
use Rattle.std.proofs.Math.Nat.{div-eq_of_lt, mod-eq_of_lt, pow-le-pow_right}
use Rattle.fx_rational.specs.Rational.{floor_div, ceil_div}
use Rattle.fx_rational.proofs.Fits.{In128}

-- ---- to the right
-- a number of k bits has none at place k or above
nothing_above : (a k s : ℕ) → a < 2 ^ k → k ≤ s → a / 2 ^ s ≡ 0
nothing_above a k s l h = div-eq_of_lt (let p = pow-le-pow_right {n = 2} (lit< tt) h in omega arith)

-- by 128 and more a floor is -1 below zero
pub floor_far_below : (v : ℤ) (s : ℕ) → FitsSigned w128 v → 128 ≤ s → v <ℤ pos 0 → negsuc 0 ≡ floor_div v (2 ^ s)
floor_far_below (pos a) s f h l = absurd (omega (arith, ints))
floor_far_below (negsuc a) s f h l = ap negsuc (sym (nothing_above a 127 s f.sfits (omega arith)))

-- and 0 else
pub floor_far : (v : ℤ) (s : ℕ) → FitsSigned w128 v → 128 ≤ s → pos 0 ≤ℤ v → pos 0 ≡ floor_div v (2 ^ s)
floor_far (pos a) s f h l = ap pos (sym (nothing_above a 127 s f.sfits (omega arith)))
floor_far (negsuc a) s f h l = absurd (omega (arith, ints))

-- by 128 and more a ceiling is 1 above zero
pub ceiling_far_above : (v : ℤ) (s : ℕ) → FitsSigned w128 v → 128 ≤ s → pos 0 <ℤ v → pos 1 ≡ ceil_div v (2 ^ s)
ceiling_far_above (pos zero) s f h l = absurd (omega (arith, ints))
ceiling_far_above (pos (suc a)) s f h l =
    ap (λ (n : ℕ). pos (suc n)) (sym (nothing_above a 127 s (let q = f.sfits in omega arith) (omega arith)))
ceiling_far_above (negsuc a) s f h l = absurd (omega (arith, ints))

-- and 0 else
pub ceiling_far : (v : ℤ) (s : ℕ) → FitsSigned w128 v → 128 ≤ s → v ≤ℤ pos 0 → pos 0 ≡ ceil_div v (2 ^ s)
ceiling_far (pos zero) s f h l = sym (ap (λ (n : ℕ). neg_ℤ (pos n)) (nothing_above 0 127 s (lit< tt) (omega arith)))
ceiling_far (pos (suc a)) s f h l = absurd (omega (arith, ints))
ceiling_far (negsuc a) s f h l =
    sym (ap (λ (n : ℕ). neg_ℤ (pos n)) (nothing_above (suc a) 128 s (let q = f.sfits in omega arith) h))

-- a magnitude fits once it's shifted by one or more
pub half_fits : (n s : ℕ) → n ≤ 2 ^ 127 → (s ≡ 0 → ⊥) → n / 2 ^ s < 2 ^ 127
half_fits n s h z = shr_below n 127 s (let p = pow_below 127 (127 + s) (omega arith) in omega arith)

-- ---- to the left
-- a has 127 - s bits, so that one more than a times 2^s is at most 2^127
room : (a s : ℕ) → s < 128 → a < 2 ^ (127 - s) → suc a * 2 ^ s ≤ 2 ^ 127
room a s h l =
    let e : 127 - s + s ≡ 127 = omega arith in
    let p = pow-add 2 (127 - s) s in let q = ap (λ (n : ℕ). 2 ^ n) e in
    let m = mul-le (suc a) (2 ^ s) (2 ^ (127 - s)) (2 ^ s) (omega arith) (omega arith) in omega arith

-- and back
room_back : (a s : ℕ) → s < 128 → a * 2 ^ s < 2 ^ 127 → a < 2 ^ (127 - s)
room_back a s h l =
    let e : 127 - s + s ≡ 127 = omega arith in
    let q = ap (λ (n : ℕ). 2 ^ n) e in
    let b = shr_below (a * 2 ^ s) (127 - s) s (omega arith) in let m = shl-shr a s in omega arith

-- no bit of a is at place k or above
none_from : (a k : ℕ) → a / 2 ^ k ≡ 0 → a < 2 ^ k
none_from a k e =
    let d = div-add-mod' a (2 ^ k) in
    let l = mod_below a (2 ^ k) (pow_pos k) in
    let z = ap (λ (n : ℕ). n * 2 ^ k) e in
    omega arith

-- all that a shift to the left drops is the sign exactly where the product fits
pub only_sign : (v : ℤ) (s : ℕ) → FitsSigned w128 v → s < 128 →
    of_z w128 (floor_div v (2 ^ (127 - s))) ≡ of_z w128 (floor_div v (2 ^ 127)) → In128 (v *ℤ pos (2 ^ s))
only_sign (pos a) s f h e =
    let l = f.sfits in let z = nothing_above a 127 127 l (omega arith) in
    let r = room a s h (none_from a (127 - s) (omega arith)) in let p = pow_pos s in
    record { low = omega (arith, ints); high = omega (arith, ints) }
only_sign (negsuc a) s f h e =
    let l = f.sfits in let z = nothing_above a 127 127 l (omega arith) in
    let u = shr_le a (127 - s) in
    let r = room a s h (none_from a (127 - s) (omega arith)) in let p = pow_pos s in
    record { low = omega (arith, ints); high = omega (arith, ints) }

-- and back
pub only_sign_back : (v : ℤ) (s : ℕ) → FitsSigned w128 v → s < 128 → In128 (v *ℤ pos (2 ^ s)) →
    of_z w128 (floor_div v (2 ^ (127 - s))) ≡ of_z w128 (floor_div v (2 ^ 127))
only_sign_back (pos a) s f h i =
    let u = i.high in let z = nothing_above a 127 127 f.sfits (omega arith) in
    let y = div-eq_of_lt (room_back a s h (omega (arith, ints))) in omega arith
only_sign_back (negsuc a) s f h i =
    let u = i.low in let z = nothing_above a 127 127 f.sfits (omega arith) in let p = pow_pos s in
    let y = div-eq_of_lt (room_back a s h (omega (arith, ints))) in omega arith

-- where m stands for -k in 128 bits, m times a number stands for -k times it
negative_times : (m k q : ℕ) → m + k ≡ 2 ^ 128 → 0 < k * suc q → k * suc q ≤ 2 ^ 128 →
    (m * suc q) % 2 ^ 128 ≡ 2 ^ 128 - k * suc q
negative_times m k q h above below =
    let e : m * suc q ≡ q * 2 ^ 128 + (2 ^ 128 - k * suc q) = omega (arith, ap (λ (n : ℕ). n * suc q) h) in
    ap (λ (n : ℕ). n % 2 ^ 128) e ∙ mod-mul-add q (2 ^ 128) (2 ^ 128 - k * suc q) (omega arith)

-- what stands for -k is -k
negative_is : (k : ℕ) → 0 < k → k ≤ 2 ^ 127 → to_z w128 (2 ^ 128 - k) ≡ neg_ℤ (pos k)
negative_is zero above below = absurd (omega arith)
negative_is (suc j) above below = to_z-of_z w128 (negsuc j) (record { sfits = omega arith })

-- what `<<` gives where the product fits
pub left_is : (v : ℤ) (p : ℕ) → 0 < p → In128 (v *ℤ pos p) → to_z w128 ((of_z w128 v * p) % 2 ^ 128) ≡ v *ℤ pos p
left_is v zero above i = absurd (omega arith)
left_is (pos a) (suc q) above i =
    let h = i.high in
    let e : (a * suc q) % 2 ^ 128 ≡ a * suc q = mod-eq_of_lt (omega (arith, ints)) in rw e (omega (arith, ints))
left_is (negsuc a) (suc q) above i =
    let l = i.low in
    let some : 0 < suc a * suc q = omega arith in let half : suc a * suc q ≤ 2 ^ 127 = omega (arith, ints) in
    ap (to_z w128) (negative_times (2 ^ 128 - suc a) (suc a) q (omega (arith, ints)) some (omega arith))
    ∙ negative_is (suc a * suc q) some half

-- by 128 and more nothing but zero fits
pub far_left : (v : ℤ) (s : ℕ) → (v ≡ pos 0 → ⊥) → 128 ≤ s → In128 (v *ℤ pos (2 ^ s)) → ⊥
far_left (pos zero) s z h i = z refl
far_left (pos (suc a)) s z h i = let p = pow_below 127 s h in let q = i.high in omega (arith, ints)
far_left (negsuc a) s z h i = let p = pow_below 127 s h in let q = i.low in omega (arith, ints)

-- zero stays zero
pub zero_left : (v : ℤ) (s : ℕ) → v ≡ pos 0 → v *ℤ pos (2 ^ s) ≡ pos 0
zero_left v s e = ap (λ (z : ℤ). z *ℤ pos (2 ^ s)) e ∙ ap pos (omega arith)

-- ---- powers of two
-- as a word of 64 bits
pub short_power : (k : ℕ) → k ≤ 62 → to_z w64 (1 * 2 ^ k % 18446744073709551616) ≡ pos (2 ^ k)
short_power k h =
    let p : 2 ^ k ≤ 2 ^ 62 = pow_mono h in
    let a : 1 * 2 ^ k ≡ 2 ^ k = omega arith in
    let b : 1 * 2 ^ k % 18446744073709551616 ≡ 2 ^ k = ap (λ (n : ℕ). n % 18446744073709551616) a
    ∙ mod-eq_of_lt (omega arith) in
    ap (λ (n : ℕ). to_z w64 n) b ∙ to_z_pos w64 (2 ^ k) (omega arith)
