-- One more digit.
use Rattle.std.proofs.Common.{◌≡◌, ◌≢◌, ℕ, zero, suc, ◌+◌, ◌*◌, ◌^◌, ◌%◌, ◌<◌, ◌≤◌, refl, ap, sym, ◌∙◌, add-one, arith}
use Rattle.std.proofs.Math.Nat.{pow-suc, mul_assoc, add-mul-mod_self_right, mod-eq_of_lt, one-le-pow, mul-le-mul_left, mul-le-mul_right, pow-le-pow_right}
use Rattle.fx_fraction.specs.declared.significant.Significant.TheVariants.{Long}
use Rattle.fx_fraction.specs.Kept.{Strips, Keeps}

pub more_zeros : (f z : ℕ) → f * 10 ^ z * 10 ≡ f * 10 ^ (z + 1)
more_zeros f z = rw (add-one, pow-suc) (mul_assoc f (10 ^ z) 10)

-- a zero at the end of the front is one behind it
pub zero_off : (f q z : ℕ) → f ≡ q * 10 → f * 10 ^ z ≡ q * 10 ^ (z + 1)
zero_off f q z e =
    let swap : 10 * 10 ^ z ≡ 10 ^ z * 10 = omega arith in
    ap (λ k. k * 10 ^ z) e ∙ mul_assoc q 10 (10 ^ z) ∙ ap (λ k. q * k) swap ∙ sym (mul_assoc q (10 ^ z) 10)
    ∙ more_zeros q z

pub last_digit : (x d : ℕ) → d < 10 → (x * 10 + d) % 10 ≡ d
last_digit x d lt = let e : x * 10 + d ≡ d + x * 10 = omega arith in rw (e, add-mul-mod_self_right) (mod-eq_of_lt lt)

pub grows : (f z : ℕ) → f ≤ f * 10 ^ z
grows f z = omega (arith, mul-le-mul_left f (one-le-pow z 10 (omega arith)))

-- the number with a zero behind it
pub with_zero : (n f z : ℕ) → (f % 10 ≢ 0) → n ≡ f * 10 ^ z → Strips (n * 10 + 0) f (z + 1)
with_zero n f z last e = record { value = rw (e, ← more_zeros f z) (omega arith); last = last }

-- the number with another digit behind it
pub with_digit : (n f z d : ℕ) → 0 < d → d < 10 → n ≡ f * 10 ^ z → Strips (n * 10 + d) (f * 10 ^ (z + 1) + d) 0
with_digit n f z d low high e = record {
  value = rw (e, ← more_zeros f z) (omega arith);
  last = λ h. omega (arith, last_digit (f * 10 ^ z) d high, ap (λ x. (x + d) % 10) (more_zeros f z), h);
}

pub long_front : (f z : ℕ) → 0 < f → 17 < z → 2 ^ 62 ≤ f * 10 ^ (z + 1)
long_front f z some lt =
    let p : 10 ^ 19 ≤ 10 ^ (z + 1) = (let some : 0 < 10 = omega arith in let le : 19 ≤ z + 1 = omega arith in
    pow-le-pow_right some le) in
    let q : 10 ^ (z + 1) ≤ f * 10 ^ (z + 1) = omega (arith, mul-le-mul_right (10 ^ (z + 1)) some) in
    omega arith

front_some : (n f z : ℕ) → Strips n f z → 0 < f
front_some n zero z s = absurd (s.last refl)
front_some n (suc f) z s = omega arith

-- the digit makes the front too long
pub is_long : (n f z d : ℕ) → 0 < d → d < 10 → Strips n f z → 2 ^ 62 ≤ f * 10 ^ (z + 1) + d → Keeps (n * 10 + d) Long
is_long n f z d low high s le = (f * 10 ^ (z + 1) + d, 0, with_digit n f z d low high s.value, le)

pub is_longer : (n f z d : ℕ) → 0 < d → d < 10 → Strips n f z → 17 < z → Keeps (n * 10 + d) Long
is_longer n f z d low high s lt = is_long n f z d low high s (omega (arith, long_front f z (front_some n f z s) lt))

pub long_goes_on : (n d : ℕ) → d < 10 → Keeps n Long → Keeps (n * 10 + d) Long
long_goes_on n zero lt (f, z, s, le) = (f, z + 1, with_zero n f z s.last s.value, le)
long_goes_on n (suc d) lt (f, z, s, le) = is_long n f z (suc d) (omega arith) lt s (omega (arith, grows f (z + 1)))

-- a digit behind a front isn't 0
pub some_digit : (f z d : ℕ) → 0 < d → d < 10 → 0 < (f * 10 ^ (z + 1) + d) % 10
some_digit f z d low high = rw (← more_zeros f z) (rw (last_digit (f * 10 ^ z) d high) low)
