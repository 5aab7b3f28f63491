-- Euclid's lemma, and that lowest terms are the only ones.
use Rattle.std.proofs.Common.{◌≡◌, ℕ, zero, suc, ◌+◌, ◌*◌, ◌/◌, ◌%◌, ◌<◌, ◌≤◌, refl, sym, ap, subst, ◌∙◌, arith, zero-lt-suc, mul-le-mul_right, pos, ℤ, ◌-ℤ◌, ◌*ℤ◌, [], ◌∷◌}
use Rattle.std.specs.Prelude.{unsigned_abs}
use Rattle.std.proofs.lemmas.Int.{ints, unsigned_abs-mul}
use Rattle.std.specs.Int.{IsGcd, ◌∣◌}
use Rattle.std.proofs.lemmas.Nat.{mod_below, mod-mul-add, div-add-mod'}
use Rattle.std.proofs.lemmas.Nat.Gcd.{dvd_antisymm, IsGcd-from_zero, IsGcd-from_mod, IsGcd-swap, same_from_IsGcd}
use Rattle.std.proofs.Math.Nat.{dvd-mul_left, dvd-mul_right}
use Rattle.fx_rational.specs.Gcd.{gcd, gcd_within, GcdLaw, OneSpellingLaw}
use Rattle.fx_rational.proofs.Integers.{eq_by_certificate}
use Rattle.fx_rational.proofs.Quote.{by_quotes, quotes}

mod_scaled : (a b c : ℕ) → 0 < b → (a * c) % (b * c) ≡ (a % b) * c
mod_scaled a b zero h =
    let e : a * 0 ≡ 0 = omega arith in
    let f : b * 0 ≡ 0 = omega arith in
    let g : (a % b) * 0 ≡ 0 = omega arith in
    rw (e, f, g) refl
mod_scaled a b (suc k) h =
    let e : a * suc k ≡ a / b * (b * suc k) + (a % b) * suc k =
    omega (arith, ap (λ (n : ℕ). n * suc k) (div-add-mod' a b)) in
    ap (λ (n : ℕ). n % (b * suc k)) e
    ∙ mod-mul-add (a / b) (b * suc k) ((a % b) * suc k) (let l = mod_below a b h in
    grind (arith, mul-le-mul_right (suc k) l))

pub scaled : (n a b : ℕ) → b ≤ n → (g : ℕ) × IsGcd a b g × ((c : ℕ) → IsGcd (a * c) (b * c) (g * c))
scaled n a zero h = (a, IsGcd-from_zero a 0 refl, λ c. IsGcd-from_zero (a * c) (0 * c) (omega arith))
scaled zero a (suc b) h = absurd (omega arith)
scaled (suc n) a (suc b) h =
    let r = scaled n (suc b) (a % suc b) (let l = mod_below a (suc b) (zero-lt-suc b) in omega arith) in (
      r.0,
      IsGcd-from_mod a (suc b) r.0 r.1,
      λ c. IsGcd-from_mod (a * c) (suc b * c) (r.0 * c)
          (subst (λ (k : ℕ). IsGcd (suc b * c) k (r.0 * c)) (sym (mod_scaled a (suc b) c (zero-lt-suc b))) (r.2 c)),
    )

pub IsGcd-mul : (a b g c : ℕ) → IsGcd a b g → IsGcd (a * c) (b * c) (g * c)
IsGcd-mul a b g c h = let r = scaled b a b (omega arith) in
    subst (λ (k : ℕ). IsGcd (a * c) (b * c) (k * c)) (same_from_IsGcd a b r.0 g r.1 h) (r.2 c)

-- a divides b * c and has no divisor with b, so it divides c
pub euclid : (a b c : ℕ) → IsGcd a b 1 → a ∣ b * c → a ∣ c
euclid a b c h d = let g = IsGcd-mul a b 1 c h in
    subst (λ (k : ℕ). a ∣ k) (let e : 1 * c ≡ c = omega arith in e) (g.2 a (dvd-mul_right a c) d)

pub lowest_den : (p q r s : ℕ) → IsGcd p q 1 → IsGcd r s 1 → p * s ≡ r * q → q ≡ s
lowest_den p q r s g h e = dvd_antisymm
    (euclid q p s (IsGcd-swap p q 1 g) (subst (λ (k : ℕ). q ∣ k) (sym e) (dvd-mul_left q r)))
    (euclid s r q (IsGcd-swap r s 1 h) (subst (λ (k : ℕ). s ∣ k) e (dvd-mul_left s p)))

-- ---- Euclid's algorithm
gcd_within_is : (n a b : ℕ) → b ≤ n → IsGcd a b (gcd_within n a b)
gcd_within_is n a zero h = IsGcd-from_zero a 0 refl
gcd_within_is zero a (suc b) h = absurd (omega arith)
gcd_within_is (suc n) a (suc b) h =
    IsGcd-from_mod a (suc b) (gcd_within n (suc b) (a % suc b))
    (gcd_within_is n (suc b) (a % suc b) (let l = mod_below a (suc b) (zero-lt-suc b) in omega arith))

pub gcd_is : GcdLaw
unfolding gcd
gcd_is a b = gcd_within_is b a b (omega arith)

-- ---- one spelling
-- a factor above zero on both sides goes away
cancelled : (p r : ℤ) (s : ℕ) → 0 < s → p *ℤ pos s ≡ r *ℤ pos s → p ≡ r
cancelled p r s above e = eq_by_certificate {c = pos s} (omega (arith, ints))
    (let d : pos s *ℤ (r -ℤ p) ≡ r *ℤ pos s -ℤ p *ℤ pos s = by_quotes {ρ = p ∷ r ∷ pos s ∷ []} (search quotes depth 20)
    (search quotes depth 20) refl in omega (arith, ints))

pub one_spelling : OneSpellingLaw
one_spelling p r q s h k e =
    let same : unsigned_abs p * s ≡ unsigned_abs r * q = sym (unsigned_abs-mul p (pos s)) ∙ ap unsigned_abs e
    ∙ unsigned_abs-mul r (pos q) in
    let below : q ≡ s = lowest_den (unsigned_abs p) q (unsigned_abs r) s h.coprime k.coprime same in
    (cancelled p r s k.above (subst (λ (n : ℕ). p *ℤ pos s ≡ r *ℤ pos n) below e), below)
