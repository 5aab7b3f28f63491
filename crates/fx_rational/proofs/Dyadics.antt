-- The values of dyadics, of their sums, differences and products, and their order.
use Rattle.std.proofs.Common.{◌≡◌, ℕ, zero, suc, pred, ◌+◌, ◌-◌, ◌*◌, ◌^◌, ◌≤◌, max, refl, sym, ap, subst, subst₂, ◌∙◌, arith, pos, negsuc, ℤ, ◌+ℤ◌, ◌-ℤ◌, ◌*ℤ◌, neg_ℤ, ◌≤ℤ◌, ◌<ℤ◌, int_le, ◌↔◌, [], ◌∷◌, Bool, true, false, if◌then◌else◌, inl, inr}
use Rattle.std.proofs.lemmas.Int.{ints}
use Rattle.std.proofs.lemmas.Nat.{pow_pos, pow-add}
use Rattle.fx_rational.proofs.Integers.{*ℤ_assoc, nonneg_of_above}
use Rattle.fx_rational.proofs.Order.{mul_le_right, le_of_mul, pow_above}
use Rattle.fx_rational.proofs.Quote as int
use Rattle.fx_rational.specs.Rational.{over, plus, negative, minus, times, Equal, AtMost, is_at_most, floor_div, ceil_div}
use Rattle.fx_rational.specs.Dyadic.{Dyadic, dyadic_value, dyadic, aligned, dyadic_sum, dyadic_difference, dyadic_product, is_dyadic_at_most, least, greatest}
use Rattle.fx_rational.specs.DyadicLaws.{SumLaw, DifferenceLaw, ProductLaw, OrderLaw, LeastLaw, IsLeast, GreatestLaw, IsGreatest}
use Rattle.fx_rational.proofs.Ring.{suc_pred}
use Rattle.fx_rational.proofs.Laws.{equal_refl, equal_sym, equal_trans, le_refl, le_of_equal, plus_same, negative_same}
use Rattle.fx_rational.proofs.Tests.{at_most_test, at_most_false}
use Rattle.fx_rational.proofs.Floors.{le_floor, ceiling_le}

-- ---- what a test tells
-- two tests of facts that go together are one
pub same_tests : (a b c d : ℤ) → (a ≤ℤ b) ↔ (c ≤ℤ d) → int_le a b ≡ int_le c d
same_tests a b c d h = by (int_le a b) (int_le c d) refl refl
  where
    by : (s t : Bool) → int_le a b ≡ s → int_le c d ≡ t → s ≡ t
    by true true p q = refl
    by true false p q = absurd (let k = h.0 (omega (arith, ints)) in omega (arith, ints))
    by false true p q = absurd (let k = h.1 (omega (arith, ints)) in omega (arith, ints))
    by false false p q = refl

-- ---- values
pub power_bottom : (e : ℕ) → suc (pred (2 ^ e)) ≡ 2 ^ e
power_bottom e = let p = pow_pos e in omega arith

-- the order by cross multiplication
pub order : (a b : Dyadic) → AtMost (dyadic_value a) (dyadic_value b) ↔
    ((a.m *ℤ pos (2 ^ b.e)) ≤ℤ (b.m *ℤ pos (2 ^ a.e)))
unfolding dyadic_value over
order a b =
    let P : ℕ → ℕ → Type 0 = λ x y. (a.m *ℤ pos x) ≤ℤ (b.m *ℤ pos y) in (
      λ h. subst₂ P (power_bottom b.e) (power_bottom a.e) h.at_most,
      λ h. record { at_most = subst₂ P (sym (power_bottom b.e)) (sym (power_bottom a.e)) h },
    )

same_value : (a b : Dyadic) → a.m *ℤ pos (2 ^ b.e) ≡ b.m *ℤ pos (2 ^ a.e) → Equal (dyadic_value a) (dyadic_value b)
unfolding dyadic_value over
same_value a b h =
    let P : ℕ → ℕ → Type 0 = λ x y. a.m *ℤ pos x ≡ b.m *ℤ pos y in
    record { equal = subst₂ P (sym (power_bottom b.e)) (sym (power_bottom a.e)) h }

-- m / 2^e as it stands
abbrev pub as_written : ℤ → ℕ → Dyadic
as_written m e = record { m = m; e = e }

-- to give zero the exponent 0 keeps the value
pub dyadic_is : (m : ℤ) (e : ℕ) → Equal (dyadic_value (dyadic m e)) (dyadic_value (as_written m e))
dyadic_is (pos zero) e = same_value (as_written (pos 0) 0) (as_written (pos 0) e) (ap pos (omega arith))
dyadic_is (pos (suc n)) e = equal_refl _
dyadic_is (negsuc n) e = equal_refl _

pub dyadic_exponent : (m : ℤ) (e : ℕ) → (dyadic m e).e ≤ e
dyadic_exponent (pos zero) e = omega arith
dyadic_exponent (pos (suc n)) e = omega arith
dyadic_exponent (negsuc n) e = omega arith

-- m * 2^(f + s) is m * 2^s * 2^f
pub raised : (m : ℤ) (f s : ℕ) → m *ℤ pos (2 ^ (f + s)) ≡ (m *ℤ pos (2 ^ s)) *ℤ pos (2 ^ f)
raised m f s = ap (λ (n : ℕ). m *ℤ pos n) (pow-add 2 f s ∙ omega arith) ∙ sym (*ℤ_assoc m (pos (2 ^ s)) (pos (2 ^ f)))

-- an alignment keeps the value
pub aligned_is : (d : Dyadic) (e : ℕ) → d.e ≤ e → Equal (dyadic_value (as_written (aligned d e) e)) (dyadic_value d)
aligned_is d e h =
    let q : d.e + (e - d.e) ≡ e = omega arith in
    same_value (as_written (aligned d e) e) d (sym (raised d.m d.e (e - d.e)) ∙ ap (λ (k : ℕ). d.m *ℤ pos (2 ^ k)) q)

plus_at_one_exponent : (m n : ℤ) (e : ℕ) →
    Equal (dyadic_value (as_written (m +ℤ n) e)) (plus (dyadic_value (as_written m e)) (dyadic_value (as_written n e)))
unfolding dyadic_value plus over
plus_at_one_exponent m n e =
    let d = pos (suc (pred (2 ^ e))) in
    record {
      equal = ap (λ (k : ℕ). (m +ℤ n) *ℤ pos k) (suc_pred (pred (2 ^ e)) (pred (2 ^ e)))
          ∙ int.by_quotes {ρ = m ∷ n ∷ d ∷ []} {a = (m +ℤ n) *ℤ (d *ℤ d)} {b = (m *ℤ d +ℤ n *ℤ d) *ℤ d}
          (search int.quotes depth 20) (search int.quotes depth 20) refl;
    }

negative_as_written : (m : ℤ) (e : ℕ) → dyadic_value (as_written (neg_ℤ m) e) ≡ negative (dyadic_value (as_written m e))
unfolding dyadic_value negative over
negative_as_written m e = refl

times_as_written : (m n : ℤ) (e f : ℕ) →
    Equal (dyadic_value (as_written (m *ℤ n) (e + f)))
    (times (dyadic_value (as_written m e)) (dyadic_value (as_written n f)))
unfolding dyadic_value times over
times_as_written m n e f =
    let same : suc (pred (suc (pred (2 ^ e)) * suc (pred (2 ^ f)))) ≡ suc (pred (2 ^ (e + f))) =
    suc_pred (pred (2 ^ e)) (pred (2 ^ f)) ∙ (λ i. power_bottom e i * power_bottom f i) ∙ sym (pow-add 2 e f)
    ∙ sym (power_bottom (e + f)) in
    record { equal = ap (λ (k : ℕ). (m *ℤ n) *ℤ pos k) same }

pub sum_is : SumLaw
unfolding dyadic_sum
sum_is a b = let e = max a.e b.e in
    equal_trans (dyadic_is (aligned a e +ℤ aligned b e) e)
    (equal_trans (plus_at_one_exponent (aligned a e) (aligned b e) e)
    (plus_same (aligned_is a e (omega arith)) (aligned_is b e (omega arith))))

pub difference_is : DifferenceLaw
unfolding dyadic_difference minus
difference_is a b = let e = max a.e b.e in
    equal_trans (dyadic_is (aligned a e -ℤ aligned b e) e)
    (equal_trans (plus_at_one_exponent (aligned a e) (neg_ℤ (aligned b e)) e)
    (plus_same (aligned_is a e (omega arith))
    (subst (λ x. Equal x (negative (dyadic_value b))) (sym (negative_as_written (aligned b e) e))
    (negative_same (aligned_is b e (omega arith))))))

pub product_is : ProductLaw
unfolding dyadic_product
product_is a b = equal_trans (dyadic_is (a.m *ℤ b.m) (a.e + b.e)) (times_as_written a.m b.m a.e b.e)

-- ---- order across exponents
-- a factor above zero on both sides
same_factor : (v w c : ℤ) → pos 0 <ℤ c → ((v *ℤ c) ≤ℤ (w *ℤ c)) ↔ (v ≤ℤ w)
same_factor v w c h = (λ k. le_of_mul h k, λ k. mul_le_right k (nonneg_of_above h))

-- against a finer dyadic the mantissa is brought up
pub below_finer : (a b : Dyadic) → a.e ≤ b.e →
    AtMost (dyadic_value a) (dyadic_value b) ↔ ((a.m *ℤ pos (2 ^ (b.e - a.e))) ≤ℤ b.m)
below_finer a b h =
    let s = b.e - a.e in let q : a.e + s ≡ b.e = omega arith in
    let o = order a b in let c = same_factor (a.m *ℤ pos (2 ^ s)) b.m (pos (2 ^ a.e)) (pow_above a.e) in
    let e : a.m *ℤ pos (2 ^ b.e) ≡ (a.m *ℤ pos (2 ^ s)) *ℤ pos (2 ^ a.e) = ap (λ (k : ℕ). a.m *ℤ pos (2 ^ k)) (sym q)
    ∙ raised a.m a.e s in (
      λ k. c.0 (subst (λ (z : ℤ). z ≤ℤ (b.m *ℤ pos (2 ^ a.e))) e (o.0 k)),
      λ k. o.1 (subst (λ (z : ℤ). z ≤ℤ (b.m *ℤ pos (2 ^ a.e))) (sym e) (c.1 k)),
    )

-- and against a coarser one the other's is
pub below_coarser : (a b : Dyadic) → b.e ≤ a.e →
    AtMost (dyadic_value a) (dyadic_value b) ↔ (a.m ≤ℤ (b.m *ℤ pos (2 ^ (a.e - b.e))))
below_coarser a b h =
    let s = a.e - b.e in let q : b.e + s ≡ a.e = omega arith in
    let o = order a b in let c = same_factor a.m (b.m *ℤ pos (2 ^ s)) (pos (2 ^ b.e)) (pow_above b.e) in
    let e : b.m *ℤ pos (2 ^ a.e) ≡ (b.m *ℤ pos (2 ^ s)) *ℤ pos (2 ^ b.e) = ap (λ (k : ℕ). b.m *ℤ pos (2 ^ k)) (sym q)
    ∙ raised b.m b.e s in (
      λ k. c.0 (subst (λ (z : ℤ). (a.m *ℤ pos (2 ^ b.e)) ≤ℤ z) e (o.0 k)),
      λ k. o.1 (subst (λ (z : ℤ). (a.m *ℤ pos (2 ^ b.e)) ≤ℤ z) (sym e) (c.1 k)),
    )

-- a mantissa brought down decides the order, and neither grows: a whole number is at least x exactly where it is at
-- least the ceiling of x
pub at_most_by_ceiling : (a b : Dyadic) → b.e ≤ a.e →
    int_le (ceil_div a.m (2 ^ (a.e - b.e))) b.m ≡ is_dyadic_at_most a b
unfolding is_at_most
at_most_by_ceiling a b h =
    let o = below_coarser a b h in let c = ceiling_le a.m b.m (2 ^ (a.e - b.e)) (pow_above (a.e - b.e)) in
    same_tests _ _ _ _ (λ k. (o.1 (c.0 k)).at_most, λ k. c.1 (o.0 (record { at_most = k })))

pub at_most_by_floor : (a b : Dyadic) → a.e ≤ b.e → int_le a.m (floor_div b.m (2 ^ (b.e - a.e))) ≡ is_dyadic_at_most a b
unfolding is_at_most
at_most_by_floor a b h =
    let o = below_finer a b h in let c = le_floor a.m b.m (2 ^ (b.e - a.e)) (pow_above (b.e - a.e)) in
    same_tests _ _ _ _ (λ k. (o.1 (c.0 k)).at_most, λ k. c.1 (o.0 (record { at_most = k })))

-- ---- order
pub at_most_law : OrderLaw
at_most_law a b = at_most_test (dyadic_value a) (dyadic_value b)

-- ---- the lesser and the greater of two
pub least_is : LeastLaw
unfolding least
least_is a b = by (is_dyadic_at_most a b) refl
  where
    by : (t : Bool) → is_dyadic_at_most a b ≡ t → IsLeast a b (if t then a else b)
    by true e = record { one = inl refl; left = le_refl _; right = (at_most_law a b).0 e; first = λ _. refl }
    by false e = record {
      one = inr refl;
      left = at_most_false _ _ e;
      right = le_refl _;
      first = λ h. absurd (let t = (at_most_law a b).1 (le_of_equal h) in cc);
    }

pub greatest_is : GreatestLaw
unfolding greatest
greatest_is a b = by (is_dyadic_at_most b a) refl
  where
    by : (t : Bool) → is_dyadic_at_most b a ≡ t → IsGreatest a b (if t then a else b)
    by true e = record { one = inl refl; left = le_refl _; right = (at_most_law b a).0 e; first = λ _. refl }
    by false e = record {
      one = inr refl;
      left = at_most_false _ _ e;
      right = le_refl _;
      first = λ h. absurd (let t = (at_most_law b a).1 (le_of_equal (equal_sym h)) in cc);
    }
