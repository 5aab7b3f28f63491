-- The laws of ℤ that std lacks: associativity of the product, distributivity, and the order's.
use Rattle.std.proofs.Common.{◌≡◌, ℕ, zero, suc, ◌*◌, refl, ap, arith, pos, negsuc, ℤ, ◌+ℤ◌, ◌-ℤ◌, ◌*ℤ◌, neg_ℤ, ◌≤ℤ◌, ◌<ℤ◌}
use Rattle.std.proofs.lemmas.Int.{ints}
use borrow.Author.Differences.{up, down, product_is, sum_is_lem, neg_is}

pub *ℤ_assoc : (a b c : ℤ) → (a *ℤ b) *ℤ c ≡ a *ℤ (b *ℤ c)
*ℤ_assoc a b c =
    let ab = product_is a b in
    let bc = product_is b c in
    omega (
      arith,
      ints,
      ap (λ (n : ℕ). n * up c) ab.0,
      ap (λ (n : ℕ). n * down c) ab.1,
      ap (λ (n : ℕ). n * down c) ab.0,
      ap (λ (n : ℕ). n * up c) ab.1,
      ap (λ (n : ℕ). up a * n) bc.0,
      ap (λ (n : ℕ). down a * n) bc.1,
      ap (λ (n : ℕ). down a * n) bc.0,
      ap (λ (n : ℕ). up a * n) bc.1,
    )

pub *ℤ-+ℤ : (a b c : ℤ) → a *ℤ (b +ℤ c) ≡ a *ℤ b +ℤ a *ℤ c
*ℤ-+ℤ a b c =
    omega (arith, ints, ap (λ (n : ℕ). up a * n) (sum_is_lem b c), ap (λ (n : ℕ). down a * n) (sum_is_lem b c))

pub +ℤ-*ℤ : (a b c : ℤ) → (a +ℤ b) *ℤ c ≡ a *ℤ c +ℤ b *ℤ c
+ℤ-*ℤ a b c =
    omega (arith, ints, ap (λ (n : ℕ). n * up c) (sum_is_lem a b), ap (λ (n : ℕ). n * down c) (sum_is_lem a b))

pub neg_ℤ-*ℤ : (a b : ℤ) → neg_ℤ a *ℤ b ≡ neg_ℤ (a *ℤ b)
neg_ℤ-*ℤ a b =
    omega (
      arith,
      ints,
      ap (λ (n : ℕ). n * up b) (neg_is a).0,
      ap (λ (n : ℕ). n * down b) (neg_is a).1,
      ap (λ (n : ℕ). n * down b) (neg_is a).0,
      ap (λ (n : ℕ). n * up b) (neg_is a).1,
    )

pub one-*ℤ : (a : ℤ) → pos 1 *ℤ a ≡ a
one-*ℤ a = omega (arith, ints)

-- ---- order
pub one_above : pos 0 <ℤ pos 1
one_above = omega (arith, ints)

pub suc_above : (n : ℕ) → pos 0 <ℤ pos (suc n)
suc_above n = omega (arith, ints)

pub mul_above : {a b : ℤ} → pos 0 <ℤ a → pos 0 <ℤ b → pos 0 <ℤ (a *ℤ b)
mul_above {a} {b} h k = go a b h k
  where
    go : (a b : ℤ) → pos 0 <ℤ a → pos 0 <ℤ b → pos 0 <ℤ (a *ℤ b)
    go (pos zero) b h k = omega (arith, ints)
    go (pos (suc m)) (pos zero) h k = omega (arith, ints)
    go (pos (suc m)) (pos (suc n)) h k = omega (arith, ints)
    go (pos (suc m)) (negsuc n) h k = absurd k.lt
    go (negsuc m) b h k = absurd h.lt

pub mul_nonneg : {a b : ℤ} → pos 0 ≤ℤ a → pos 0 ≤ℤ b → pos 0 ≤ℤ (a *ℤ b)
mul_nonneg {a} {b} h k = go a b h k
  where
    go : (a b : ℤ) → pos 0 ≤ℤ a → pos 0 ≤ℤ b → pos 0 ≤ℤ (a *ℤ b)
    go (pos m) (pos n) h k = omega (arith, ints)
    go (pos m) (negsuc n) h k = absurd k.le
    go (negsuc m) b h k = absurd h.le

pub add_nonneg : {a b : ℤ} → pos 0 ≤ℤ a → pos 0 ≤ℤ b → pos 0 ≤ℤ (a +ℤ b)
add_nonneg h k = omega (arith, ints)

pub nonneg_of_above : {a : ℤ} → pos 0 <ℤ a → pos 0 ≤ℤ a
nonneg_of_above h = omega (arith, ints)

pub difference_nonneg : {a b : ℤ} → a ≤ℤ b → pos 0 ≤ℤ (b -ℤ a)
difference_nonneg h = omega (arith, ints)

pub le_of_difference : {a b : ℤ} → pos 0 ≤ℤ (b -ℤ a) → a ≤ℤ b
le_of_difference h = omega (arith, ints)

-- an order from a certificate: c * (q - p) is s, with c above zero and s not below it
pub le_by_certificate : {p q c s : ℤ} → pos 0 <ℤ c → pos 0 ≤ℤ s → c *ℤ (q -ℤ p) ≡ s → p ≤ℤ q
le_by_certificate {p} {q} {c} {s} h k e = le_of_difference (go c (q -ℤ p) s h k e)
  where
    go : (c d s : ℤ) → pos 0 <ℤ c → pos 0 ≤ℤ s → c *ℤ d ≡ s → pos 0 ≤ℤ d
    go c (pos m) s h k e = omega (arith, ints)
    go (pos zero) (negsuc m) s h k e = absurd (omega (arith, ints))
    go (pos (suc n)) (negsuc m) s h k e = absurd (omega (arith, ints))
    go (negsuc n) (negsuc m) s h k e = absurd h.lt

-- and an equation: c * (q - p) is 0, with c above zero
pub eq_by_certificate : {p q c : ℤ} → pos 0 <ℤ c → c *ℤ (q -ℤ p) ≡ pos 0 → p ≡ q
eq_by_certificate {p} {q} {c} h e = let k = go c (q -ℤ p) h e in omega (arith, ints)
  where
    go : (c d : ℤ) → pos 0 <ℤ c → c *ℤ d ≡ pos 0 → d ≡ pos 0
    go c (pos zero) h e = refl
    go (pos zero) (pos (suc m)) h e = absurd (omega (arith, ints))
    go (pos (suc n)) (pos (suc m)) h e = absurd (omega (arith, ints))
    go (negsuc n) (pos (suc m)) h e = absurd h.lt
    go (pos zero) (negsuc m) h e = absurd (omega (arith, ints))
    go (pos (suc n)) (negsuc m) h e = absurd (omega (arith, ints))
    go (negsuc n) (negsuc m) h e = absurd h.lt
