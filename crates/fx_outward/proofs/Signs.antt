-- The sign of a divisor, and intervals of the other signs.
use Rattle.std.proofs.Common.{◌≡◌, ℕ, ◌-◌, ◌^◌, Bool, true, false, ◌&&◌, ◌||◌, if◌then◌else◌, Some, Result, Err, ℤ, pos, negsuc, ◌-ℤ◌, ◌*ℤ◌, neg_ℤ, max, refl, sym, ap, subst, ◌∙◌, arith}
use Rattle.std.proofs.lemmas.Int.{ints}
use Rattle.fx_rational.specs.Rational.{over, above_zero, below_zero, is_positive, is_negative}
use Rattle.fx_rational.specs.Dyadic.{Dyadic, dyadic, dyadic_value, zero_dyadic, fits_128, aligned, dyadic_difference, difference_fits}
use Rattle.fx_rational.specs.Interval.{Interval}
use Rattle.fx_rational.proofs.Lowest.{size-neg_ℤ}
use Rattle.fx_inequalities.specs.Formula.{span, formula_value, formed, formula_fits, zero_span, span_difference}
use Rattle.fx_inequalities.specs.NodeConditions.{positive_quotient_claims}
use Rattle.fx_bounds.proofs.Claims.{both_left, both_right}
use Rattle.fx_outward.specs.Narrow.{narrowest, positive_bounds}
use Rattle.fx_formulas.specs.Judging.{FormsSpan}
use Rattle.fx_outward.specs.Narrowed.{IsPlainEnd, IsPlainInterval, plain_quotient}
use Rattle.fx_outward.specs.declared.fault.Why.{Why}
use Rattle.fx_outward.specs.declared.fault.Why.TheVariants.{Zero}
use Rattle.fx_outward.proofs.Settled.{end_fits}
use Rattle.fx_outward.proofs.Lefts.{small_fits}
use Rattle.fx_outward.proofs.Shorts.{short_small}

-- ---- by the signs of the divisor's ends
module _ (a b : Interval) where
  abbrev over_bounds : Result Interval Why
  over_bounds =
      narrowest 24 (positive_bounds (span a) (span b)) (λ g. positive_quotient_claims (span a) (span b) (span g))

  abbrev under_bounds : Result Interval Why
  under_bounds =
      narrowest 24 (positive_bounds (span_difference zero_span (span a)) (span_difference zero_span (span b)))
      (λ g. positive_quotient_claims (span_difference zero_span (span a)) (span_difference zero_span (span b)) (span g))

  abbrev choose : Bool → Bool → Bool → Bool → Result Interval Why
  choose p q r s = if (p && q) || (r && s) then
      narrowest 24 (if p then positive_bounds (span a) (span b)
      else positive_bounds (span_difference zero_span (span a)) (span_difference zero_span (span b)))
      (λ g. if p then positive_quotient_claims (span a) (span b) (span g)
      else positive_quotient_claims (span_difference zero_span (span a)) (span_difference zero_span (span b))
      (span g)) else Err Zero

  chosen : choose (above_zero b.lo.m) (above_zero b.hi.m) (below_zero b.lo.m) (below_zero b.hi.m) ≡ plain_quotient a b
  unfolding formula_value is_positive is_negative dyadic_value over
  chosen = refl

  pub quotient_over : (above_zero b.lo.m && above_zero b.hi.m) ≡ true → over_bounds ≡ plain_quotient a b
  quotient_over h =
      let p = both_left (above_zero b.lo.m) (above_zero b.hi.m) h in
      let q = both_right (above_zero b.lo.m) (above_zero b.hi.m) h in
      (λ i. choose (sym p i) (sym q i) (below_zero b.lo.m) (below_zero b.hi.m)) ∙ chosen

  not_above : (m : ℤ) → below_zero m ≡ true → above_zero m ≡ false
  not_above (pos n) h = absurd cc
  not_above (negsuc n) h = refl

  pub quotient_under : (below_zero b.lo.m && below_zero b.hi.m) ≡ true → under_bounds ≡ plain_quotient a b
  quotient_under h =
      let r = both_left (below_zero b.lo.m) (below_zero b.hi.m) h in
      let s = both_right (below_zero b.lo.m) (below_zero b.hi.m) h in
      let p = not_above b.lo.m r in
      (λ i. choose (sym p i) (above_zero b.hi.m) (sym r i) (sym s i)) ∙ chosen

  pub quotient_zero : (above_zero b.lo.m && above_zero b.hi.m) ≡ false →
      (below_zero b.lo.m && below_zero b.hi.m) ≡ false → Path (Result Interval Why) (Err Zero) (plain_quotient a b)
  quotient_zero h k =
      let none : Path (Result Interval Why) (Err Zero)
      (choose (above_zero b.lo.m) (above_zero b.hi.m) (below_zero b.lo.m) (below_zero b.hi.m)) = rw (h, k) refl in
      none ∙ chosen

-- ---- plain intervals fit
pub plain_forms : (a : Interval) → IsPlainInterval a → FormsSpan (Some a) (span a)
unfolding formula_fits formed
plain_forms a h = let lo = end_fits a.lo h.lo.small in let hi = end_fits a.hi h.hi.small in (rw (lo, hi) refl, refl)

-- ---- the other signs
pub zero_less : (d : Dyadic) → dyadic_difference zero_dyadic d ≡ dyadic (neg_ℤ d.m) d.e
unfolding dyadic_difference
zero_less d =
    let e : max 0 d.e ≡ d.e = omega arith in
    ap (λ (k : ℕ). dyadic (aligned zero_dyadic k -ℤ aligned d k) k) e
    ∙ ap (λ (z : ℤ). dyadic z d.e) (less d.m (2 ^ (d.e - 0)) (d.e - d.e) (omega arith))
  where
    less : (m : ℤ) (p s : ℕ) → s ≡ 0 → pos 0 *ℤ pos p -ℤ m *ℤ pos (2 ^ s) ≡ neg_ℤ m
    less m p s h = rw h (omega (arith, ints))

abbrev pub opposite_of : Interval → Interval
opposite_of a = record { lo = dyadic (neg_ℤ a.hi.m) a.hi.e; hi = dyadic (neg_ℤ a.lo.m) a.lo.e }

own : (m : ℤ) (s : ℕ) → s ≡ 0 → m *ℤ pos (2 ^ s) ≡ m
own m s h = rw h (omega (arith, ints))

zero_less_fits : (d : Dyadic) → IsPlainEnd d → difference_fits zero_dyadic d ≡ true
unfolding difference_fits
zero_less_fits d h =
    let e : max 0 d.e ≡ d.e = omega arith in
    let m : aligned d d.e ≡ d.m = own d.m (d.e - d.e) (omega arith) in
    let z : aligned zero_dyadic d.e ≡ pos 0 = omega (arith, ints) in
    let f = end_fits d h.small in
    let g : fits_128 (pos 0 -ℤ d.m) ≡ true =
    small_fits (pos 0 -ℤ d.m) (let n : pos 0 -ℤ d.m ≡ neg_ℤ d.m = omega (arith, ints) in let s = size-neg_ℤ d.m in
    let l = short_small d h.small in rw (n, s) (omega (arith, l))) in
    let o : fits_128 (pos 0) ≡ true = small_fits (pos 0) (omega arith) in
    subst (λ (k : ℕ). (fits_128 (aligned zero_dyadic k) && fits_128 (aligned d k) &&
    fits_128 (aligned zero_dyadic k -ℤ aligned d k)) ≡ true) (sym e)
    (subst (λ (y : ℤ). (fits_128 (aligned zero_dyadic d.e) && fits_128 y && fits_128 (aligned zero_dyadic d.e -ℤ y))
    ≡ true) (sym m)
    (subst (λ (x : ℤ). (fits_128 x && fits_128 d.m && fits_128 (x -ℤ d.m)) ≡ true) (sym z) (three o f g)))
  where
    three : {p q r : Bool} → p ≡ true → q ≡ true → r ≡ true → (p && q && r) ≡ true
    three p q r = rw (p, q, r) refl

pub opposite_forms : (a : Interval) → IsPlainInterval a →
    FormsSpan (Some (opposite_of a)) (span_difference zero_span (span a))
unfolding formula_fits formed
opposite_forms a h =
    let o : fits_128 (pos 0) ≡ true = small_fits (pos 0) (omega arith) in
    let lo = end_fits a.lo h.lo.small in let hi = end_fits a.hi h.hi.small in
    let dl = zero_less_fits a.lo h.lo in let dh = zero_less_fits a.hi h.hi in
    (rw (o, lo, hi, dl, dh) refl, (λ i. record { lo = sym (zero_less a.hi) i; hi = sym (zero_less a.lo) i }))

pub below_above : (m : ℤ) (e : ℕ) → below_zero m ≡ true → above_zero (dyadic (neg_ℤ m) e).m ≡ true
below_above (pos n) e h = absurd cc
below_above (negsuc n) e h = refl
