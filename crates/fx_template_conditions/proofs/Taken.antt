-- What is taken away at one exponent is taken away.
use Rattle.std.proofs.Common.{◌≡◌, ℕ, zero, suc, ◌+◌, ◌-◌, ◌^◌, ◌≤◌, max, ℤ, pos, negsuc, ◌*ℤ◌, ◌-ℤ◌, Bool, true, false, ◌&&◌, IsTrue, refl, sym, ap, ap₂, subst, ◌∙◌, arith, if◌then◌else◌}
use Rattle.std.proofs.lemmas.Int.{ints}
use Rattle.fx_rational.specs.Dyadic.{Dyadic, aligned, dyadic, zero_dyadic, dyadic_product, dyadic_difference, difference_fits, product_fits, fits_128, is_dyadic_at_most, least, greatest}
use Rattle.fx_rational.specs.Interval.{Interval, interval_product, interval_product_fits}

-- a product's mantissa at a greater exponent, whether or not it is zero
record Aligned (q : ℤ) (e d : ℕ) (b : Dyadic) : Type 0 where
  greater : max e b.e ≡ e
  same : b.m *ℤ pos (2 ^ (e - b.e)) ≡ q *ℤ pos (2 ^ d)

zero_raised : (n : ℕ) → pos 0 *ℤ pos n ≡ pos 0
zero_raised n = omega (arith, ints)

product_aligned : (q : ℤ) (p d e : ℕ) → e ≡ p + d → Aligned q e d (dyadic q p)
product_aligned (pos zero) p d e h =
    record { greater = omega arith; same = zero_raised (2 ^ (e - 0)) ∙ sym (zero_raised (2 ^ d)) }
product_aligned (pos (suc n)) p d e h =
    let k : e - p ≡ d = omega arith in
    record { greater = omega arith; same = ap (λ (i : ℕ). pos (suc n) *ℤ pos (2 ^ i)) k }
product_aligned (negsuc n) p d e h =
    let k : e - p ≡ d = omega arith in
    record { greater = omega arith; same = ap (λ (i : ℕ). negsuc n *ℤ pos (2 ^ i)) k }

not_raised : (m : ℤ) (e : ℕ) → m *ℤ pos (2 ^ (e - e)) ≡ m
not_raised m e = let k : e - e ≡ 0 = omega arith in ap (λ (i : ℕ). m *ℤ pos (2 ^ i)) k ∙ omega (arith, ints)

all_fit : (u v w : Bool) → u ≡ true → v ≡ true → w ≡ true → (u && v && w) ≡ true
all_fit u v w a b c = rw (a, b, c) refl

-- what is known of a number that is taken away, raised to the exponent of what it is taken from
pub record Taken (l d : Dyadic) (t : ℤ) : Type 0 where
  greater : max l.e d.e ≡ l.e
  left : aligned l (max l.e d.e) ≡ l.m
  taken : aligned d (max l.e d.e) ≡ t

pub product_taken : (l a b : Dyadic) (q t : ℤ) → a.e + b.e ≤ l.e → q ≡ a.m *ℤ b.m →
    t ≡ q *ℤ pos (2 ^ (l.e - (a.e + b.e))) → Taken l (dyadic_product a b) t
unfolding dyadic_product
product_taken l a b q t h p r =
    let d = l.e - (a.e + b.e) in
    let al = product_aligned (a.m *ℤ b.m) (a.e + b.e) d l.e (omega arith) in
    let raised : (a.m *ℤ b.m) *ℤ pos (2 ^ d) ≡ t = sym (r ∙ ap (λ (u : ℤ). u *ℤ pos (2 ^ d)) p) in
    record {
      greater = al.greater;
      left = ap (λ (e : ℕ). l.m *ℤ pos (2 ^ (e - l.e))) al.greater ∙ not_raised l.m l.e;
      taken = ap (λ (e : ℕ). aligned (dyadic_product a b) e) al.greater ∙ al.same ∙ raised;
    }

zero_product : (a b : Dyadic) → b.m ≡ pos 0 → dyadic_product a b ≡ zero_dyadic
unfolding dyadic_product
zero_product a b z =
    let none : a.m *ℤ b.m ≡ pos 0 = ap (λ (m : ℤ). a.m *ℤ m) z ∙ omega (arith, ints) in
    ap (λ (m : ℤ). dyadic m (a.e + b.e)) none

-- a product with zero takes nothing away
pub nothing_taken : (l a b : Dyadic) → b.m ≡ pos 0 → Taken l (dyadic_product a b) (pos 0)
nothing_taken l a b z =
    let same : max l.e 0 ≡ l.e = omega arith in
    subst (λ (d : Dyadic). Taken l d (pos 0)) (sym (zero_product a b z)) (record {
      greater = same;
      left = ap (λ (e : ℕ). l.m *ℤ pos (2 ^ (e - l.e))) same ∙ not_raised l.m l.e;
      taken = zero_raised (2 ^ (max l.e 0 - 0));
    })

pub zero_fits : IsTrue (fits_128 (pos 0))
unfolding fits_128
zero_fits = refl

pub whole_fits : (a b : Dyadic) (q : ℤ) → q ≡ a.m *ℤ b.m → IsTrue (fits_128 q) → IsTrue (product_fits a b)
unfolding product_fits
whole_fits a b q p h = subst (λ (m : ℤ). IsTrue (fits_128 m)) p h

pub less_fits : (l d : Dyadic) (t : ℤ) → Taken l d t → IsTrue (fits_128 l.m) → IsTrue (fits_128 t) →
    IsTrue (fits_128 (l.m -ℤ t)) → IsTrue (difference_fits l d)
unfolding difference_fits
less_fits l d t is f g k =
    ap₂ (λ (u v : ℤ). fits_128 u && fits_128 v && fits_128 (u -ℤ v)) is.left is.taken
    ∙ all_fit (fits_128 l.m) (fits_128 t) (fits_128 (l.m -ℤ t)) f g k

pub less_is : (l d r : Dyadic) (t m : ℤ) → Taken l d t → m ≡ l.m -ℤ t → r ≡ dyadic m l.e → r ≡ dyadic_difference l d
unfolding dyadic_difference
less_is l d r t m is k e =
    e ∙ ap (λ (u : ℤ). dyadic u l.e) k ∙ sym (λ i. dyadic (is.left i -ℤ is.taken i) (is.greater i))

-- ---- an interval times a number
same_either_way : (t : Bool) (x : Dyadic) → (if t then x else x) ≡ x
same_either_way true x = refl
same_either_way false x = refl

same_least : (x : Dyadic) → least x x ≡ x
unfolding least
same_least x = same_either_way (is_dyadic_at_most x x) x

same_greatest : (x : Dyadic) → greatest x x ≡ x
unfolding greatest
same_greatest x = same_either_way (is_dyadic_at_most x x) x

pub ends_fit : (a : Dyadic) (v : Interval) → IsTrue (product_fits a v.lo) → IsTrue (product_fits a v.hi) →
    IsTrue (interval_product_fits (record { lo = a; hi = a }) v)
unfolding interval_product_fits
ends_fit a v h k = rw (h, k) refl

pub ends_are : (a low high : Dyadic) (v : Interval) → low ≡ dyadic_product a v.lo → high ≡ dyadic_product a v.hi →
    record { lo = least low high; hi = greatest low high } ≡ interval_product (record { lo = a; hi = a }) v
unfolding interval_product
ends_are a low high v p q =
    let l = least (dyadic_product a v.lo) (dyadic_product a v.hi) in
    let g = greatest (dyadic_product a v.lo) (dyadic_product a v.hi) in
    (λ i. record { lo = least (p i) (q i); hi = greatest (p i) (q i) })
    ∙ sym (λ i. record { lo = same_least l i; hi = same_greatest g i })
