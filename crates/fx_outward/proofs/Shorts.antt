-- Sums and products of mantissas of at most 62 bits fit.
use Rattle.std.proofs.Common.{◌≡◌, ℕ, ◌+◌, ◌-◌, ◌^◌, ◌<◌, ◌≤◌, nat_le, max, true, ◌&&◌, Some, ℤ, ◌+ℤ◌, ◌*ℤ◌, neg_ℤ, pos, negsuc, ◌≤ℤ◌, ◌<ℤ◌, refl, arith}
use Rattle.std.specs.Prelude.{unsigned_abs}
use Rattle.std.proofs.lemmas.Int.{ints, unsigned_abs-mul}
use Rattle.std.proofs.lemmas.Nat.{mul-le}
use Rattle.fx_rational.specs.Dyadic.{Dyadic, fits_128, aligned, sum_fits, product_fits}
use Rattle.fx_rational.specs.Interval.{Interval, interval_sum, interval_sum_fits, interval_product, interval_product_fits}
use Rattle.fx_rational.proofs.Fits.{fits_in}
use Rattle.fx_inequalities.specs.Formula.{Span, span, span_sum, span_product}
use Rattle.fx_bounds.proofs.Claims.{both_left, both_right}
use Rattle.fx_formulas.specs.Judging.{FormsSpan}
use Rattle.fx_formulas.specs.Places.{IsShortSpan}
use Rattle.fx_formulas.proofs.Judged.{both_again, plus_forms, times_forms}
use Rattle.fx_outward.specs.Narrowed.{HasFewPlaces}
use Rattle.fx_outward.specs.Grid.{is_small}
use Rattle.fx_outward.specs.Short.{has_short_ends, is_near, has_few_places, has_short_sum, has_short_product}
use Rattle.fx_outward.proofs.Lefts.{left_small, sized_fits}

-- ---- what the tests say
pub short_small : (d : Dyadic) → is_small d ≡ true → unsigned_abs d.m < 2 ^ 62
short_small d h = grind (arith, h)

pub short_lo : (x : Interval) → has_short_ends x ≡ true → is_small x.lo ≡ true
short_lo x h = both_left (is_small x.lo) (is_small x.hi) h

pub short_hi : (x : Interval) → has_short_ends x ≡ true → is_small x.hi ≡ true
short_hi x h = both_right (is_small x.lo) (is_small x.hi) h

at_most : (a b : ℕ) → nat_le a b ≡ true → a ≤ b
at_most a b h = grind (arith, h)

pub near_left : (a b : Dyadic) → is_near a b ≡ true → max a.e b.e - a.e ≤ 64
near_left a b h =
    let l = at_most b.e (a.e + 64) (both_right (nat_le a.e (b.e + 64)) (nat_le b.e (a.e + 64)) h) in omega (arith, l)

pub near_right : (a b : Dyadic) → is_near a b ≡ true → max a.e b.e - b.e ≤ 64
near_right a b h =
    let l = at_most a.e (b.e + 64) (both_left (nat_le a.e (b.e + 64)) (nat_le b.e (a.e + 64)) h) in omega (arith, l)

-- the four parts of the test of a sum
pub record IsShortSum (x y : Interval) : Type 0 where
  pub x_short : has_short_ends x ≡ true
  pub y_short : has_short_ends y ≡ true
  pub lo : is_near x.lo y.lo ≡ true
  pub hi : is_near x.hi y.hi ≡ true

pub short_sum_of : (x y : Interval) → has_short_sum x y ≡ true → IsShortSum x y
short_sum_of x y h =
    let a = has_short_ends x in let b = has_short_ends y in let c = is_near x.lo y.lo in let d = is_near x.hi y.hi in
    let abc = both_left (a && b && c) d h in let ab = both_left (a && b) c abc in
    record {
      x_short = both_left a b ab;
      y_short = both_right a b ab;
      lo = both_right (a && b) c abc;
      hi = both_right (a && b && c) d h;
    }

-- and of a product
pub record IsShortProduct (x y : Interval) : Type 0 where
  pub x_short : has_short_ends x ≡ true
  pub y_short : has_short_ends y ≡ true
  pub x_places : HasFewPlaces x
  pub y_places : HasFewPlaces y

-- every formula of it has few places
pub few_short : (i : Interval) → HasFewPlaces i → IsShortSpan 512 (span i)
few_short i h = let a = h.lo in let b = h.hi in record { lo = record { few = a }; hi = record { few = b } }

few_of : (x : Interval) → has_few_places x ≡ true → HasFewPlaces x
few_of x h = record {
  lo = at_most x.lo.e 512 (both_left (nat_le x.lo.e 512) (nat_le x.hi.e 512) h);
  hi = at_most x.hi.e 512 (both_right (nat_le x.lo.e 512) (nat_le x.hi.e 512) h);
}

pub short_product_of : (x y : Interval) → has_short_product x y ≡ true → IsShortProduct x y
short_product_of x y h =
    let a = has_short_ends x in let b = has_short_ends y in let c = has_few_places x in let d = has_few_places y in
    let abc = both_left (a && b && c) d h in let ab = both_left (a && b) c abc in
    record {
      x_short = both_left a b ab;
      y_short = both_right a b ab;
      x_places = few_of x (both_right (a && b) c abc);
      y_places = few_of y (both_right (a && b && c) d h);
    }

-- ---- sums
bounded : (z : ℤ) → unsigned_abs z < 2 ^ 126 → (neg_ℤ (pos (2 ^ 126)) ≤ℤ z) × (z <ℤ pos (2 ^ 126))
bounded (pos n) l = (omega (arith, ints, l), omega (arith, ints, l))
bounded (negsuc n) l = (omega (arith, ints, l), omega (arith, ints, l))

sum_in : (a b : ℤ) → unsigned_abs a < 2 ^ 126 → unsigned_abs b < 2 ^ 126 → fits_128 (a +ℤ b) ≡ true
sum_in a b h k =
    let p = bounded a h in let q = bounded b k in let pl = p.0 in let ph = p.1 in let ql = q.0 in let qh = q.1 in
    fits_in (a +ℤ b) (record { low = omega (arith, ints, pl, ql); high = omega (arith, ints, ph, qh) })

short_sums : (a b : Dyadic) → is_small a ≡ true → is_small b ≡ true → is_near a b ≡ true → sum_fits a b ≡ true
unfolding sum_fits
short_sums a b h k near =
    let e = max a.e b.e in
    let m = left_small a.m (e - a.e) (short_small a h) (near_left a b near) in
    let n = left_small b.m (e - b.e) (short_small b k) (near_right a b near) in
    rw (
      sized_fits (aligned a e) (omega (arith, m)),
      sized_fits (aligned b e) (omega (arith, n)),
      sum_in (aligned a e) (aligned b e) m n,
    ) refl

-- ---- products
product_size : (a b : ℤ) → unsigned_abs a < 2 ^ 62 → unsigned_abs b < 2 ^ 62 → unsigned_abs (a *ℤ b) < 2 ^ 126
product_size a b h k =
    let e = unsigned_abs-mul a b in
    let m = mul-le (unsigned_abs a) (unsigned_abs b) (2 ^ 62) (2 ^ 62) (omega (arith, h)) (omega (arith, k)) in
    omega (arith, e, m)

pub product_few : (a b : ℤ) → unsigned_abs a < 2 ^ 62 → unsigned_abs b < 2 ^ 62 → unsigned_abs (a *ℤ b) < 2 ^ 127
product_few a b h k = let p = product_size a b h k in omega (arith, p)

short_products : (a b : Dyadic) → is_small a ≡ true → is_small b ≡ true → product_fits a b ≡ true
unfolding product_fits
short_products a b h k = sized_fits (a.m *ℤ b.m) (product_few a.m b.m (short_small a h) (short_small b k))

-- ---- what they come to
sums_fit : (x y : Interval) → has_short_sum x y ≡ true → interval_sum_fits x y ≡ true
unfolding interval_sum_fits
sums_fit x y h = let p = short_sum_of x y h in
    both_again (sum_fits x.lo y.lo) (sum_fits x.hi y.hi)
    (short_sums x.lo y.lo (short_lo x p.x_short) (short_lo y p.y_short) p.lo)
    (short_sums x.hi y.hi (short_hi x p.x_short) (short_hi y p.y_short) p.hi)

pub sum_formed : (x y r : Interval) (s t : Span) → has_short_sum x y ≡ true → r ≡ interval_sum x y →
    FormsSpan (Some x) s → FormsSpan (Some y) t → FormsSpan (Some r) (span_sum s t)
sum_formed x y r s t h is j k = plus_forms (Some r) x y s t (sums_fit x y h, is) j k

products_fit : (x y : Interval) → has_short_product x y ≡ true → interval_product_fits x y ≡ true
unfolding interval_product_fits
products_fit x y h =
    let p = short_product_of x y h in let a = short_lo x p.x_short in let b = short_hi x p.x_short in
    let c = short_lo y p.y_short in let d = short_hi y p.y_short in
    rw (
      short_products x.lo y.lo a c,
      short_products x.lo y.hi a d,
      short_products x.hi y.lo b c,
      short_products x.hi y.hi b d,
    ) refl

pub product_formed : (x y r : Interval) (s t : Span) → has_short_product x y ≡ true → r ≡ interval_product x y →
    FormsSpan (Some x) s → FormsSpan (Some y) t → FormsSpan (Some r) (span_product s t)
product_formed x y r s t h is j k = times_forms (Some r) x y s t (products_fit x y h, is) j k
