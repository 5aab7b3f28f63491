-- What holds of an interval round bounds: sums and quotients as claims.
use Rattle.std.proofs.Common.{◌≡◌, ℕ, zero, suc, Bool, true, false, ◌&&◌, ◌||◌, if◌then◌else◌, [], ◌∷◌, ℤ, pos, negsuc, ◌<ℤ◌, ◌↔◌, ◌⊎◌, inl, inr, ⊎_elim, Some, refl, arith}
use Rattle.std.specs.List.{list_all}
use Rattle.std.proofs.lemmas.Int.{ints}
use Rattle.fx_rational.specs.Rational.{Rational, whole, over, minus, negative, times, quotient, divided, AtMost, is_at_most, is_positive, is_negative, above_zero, below_zero, Equal}
use Rattle.fx_rational.proofs.Ring.{by_quotes, quotes}
use Rattle.fx_inequalities.specs.Formula.{Formula, Difference, formula_value, Span, zero_span, span_difference, Product}
use Rattle.fx_inequalities.specs.Claim.{Below, holds, inside}
use Rattle.fx_inequalities.specs.NodeConditions.{positive_quotient_claims, quotient_claims}
use Rattle.fx_rational.specs.Dyadic.{dyadic_value}
use Rattle.fx_rational.proofs.Laws.{le_trans, le_of_equal, equal_sym, times_le}
use Rattle.fx_rational.proofs.Tests.{at_most_true, at_most_false, at_most_holds}
use Rattle.fx_rational.proofs.Quotient.{Above, above_more, above_nonneg, le_of_times, quotient_back}
use Rattle.fx_bounds.proofs.Claims.{positive_above, negative_above, both_left, both_right}
use Rattle.fx_outward.specs.Narrow.{ratio, lesser_value, greater_value, positive_bounds, quotient_bounds, is_apart, span_bounds, Bounds}

-- ---- tests
pub both_true : {a b : Bool} → a ≡ true → b ≡ true → (a && b) ≡ true
both_true p q = rw (p, q) refl

-- ---- the lesser and the greater of two
pub below_lesser : (x a b : Rational) → AtMost x (lesser_value a b) ↔ (AtMost x a × AtMost x b)
below_lesser x a b = by (is_at_most a b) refl
  where
    by : (t : Bool) → is_at_most a b ≡ t → AtMost x (if t then a else b) ↔ (AtMost x a × AtMost x b)
    by true e = (λ h. (h, le_trans h (at_most_true a b e)), λ h. h.0)
    by false e = (λ h. (le_trans h (at_most_false a b e), h), λ h. h.1)

pub above_greater : (x a b : Rational) → AtMost (greater_value a b) x ↔ (AtMost a x × AtMost b x)
above_greater x a b = by (is_at_most b a) refl
  where
    by : (t : Bool) → is_at_most b a ≡ t → AtMost (if t then a else b) x ↔ (AtMost a x × AtMost b x)
    by true e = (λ h. (h, le_trans (at_most_true b a e) h), λ h. h.0)
    by false e = (λ h. (le_trans (at_most_false b a e) h, h), λ h. h.1)

-- ---- ratios
ratio_some : (p q : Rational) → Above q → quotient p q ≡ Some (ratio p q)
unfolding quotient divided ratio
ratio_some p q h = go q.top q.less h.top
  where
    go : (n : ℤ) (l : ℕ) → pos 0 <ℤ n →
        quotient p (record { top = n; less = l }) ≡ Some (ratio p (record { top = n; less = l }))
    go (pos zero) l h = absurd (omega (arith, ints))
    go (pos (suc n)) l h = refl
    go (negsuc n) l h = absurd (omega (arith, ints))

pub ratio_back : (p q : Rational) → Above q → Equal (times (ratio p q) q) p
ratio_back p q h = quotient_back p q (ratio p q) (ratio_some p q h)

pub below_ratio : (x p q : Rational) → Above q → AtMost x (ratio p q) ↔ AtMost (times x q) p
below_ratio x p q h = (
  λ k. le_trans (times_le k (above_nonneg h)) (le_of_equal (ratio_back p q h)),
  λ k. le_of_times h (le_trans k (le_of_equal (equal_sym (ratio_back p q h)))),
)

pub above_ratio : (x p q : Rational) → Above q → AtMost (ratio p q) x ↔ AtMost p (times x q)
above_ratio x p q h = (
  λ k. le_trans (le_of_equal (equal_sym (ratio_back p q h))) (times_le k (above_nonneg h)),
  λ k. le_of_times h (le_trans (le_of_equal (ratio_back p q h)) k),
)

-- ---- spans round bounds
pub record Around (c : Span) (b : Bounds) : Type 0 where
  pub low : AtMost (formula_value c.lo) b.lo
  pub high : AtMost b.hi (formula_value c.hi)

pub around_inside : (s c : Span) → Around c (span_bounds s) ↔ (list_all holds (inside s c) ≡ true)
around_inside s c = (
  λ h. both_true (at_most_holds h.low) (both_true (at_most_holds h.high) refl),
  λ h. record {
    low = at_most_true _ _ (both_left _ _ h);
    high = at_most_true _ _ (both_left _ _ (both_right (holds (Below c.lo s.lo)) _ h));
  },
)

-- both_true ends above zero
pub record IsAbove (b : Span) : Type 0 where
  pub lo : Above (formula_value b.lo)
  pub hi : Above (formula_value b.hi)

positive_around : (a b c : Span) → IsAbove b →
    Around c (positive_bounds a b) ↔ (list_all holds (positive_quotient_claims a b c) ≡ true)
unfolding formula_value
positive_around a b c above =
    let l =
    below_lesser (formula_value c.lo) (ratio (formula_value a.lo) (formula_value b.lo))
    (ratio (formula_value a.lo) (formula_value b.hi)) in
    let g =
    above_greater (formula_value c.hi) (ratio (formula_value a.hi) (formula_value b.lo))
    (ratio (formula_value a.hi) (formula_value b.hi)) in
    let l0 = below_ratio (formula_value c.lo) (formula_value a.lo) (formula_value b.lo) above.lo in
    let l1 = below_ratio (formula_value c.lo) (formula_value a.lo) (formula_value b.hi) above.hi in
    let g0 = above_ratio (formula_value c.hi) (formula_value a.hi) (formula_value b.lo) above.lo in
    let g1 = above_ratio (formula_value c.hi) (formula_value a.hi) (formula_value b.hi) above.hi in
    let k0 = Below (Product c.lo b.lo) a.lo in
    let k1 = Below (Product c.lo b.hi) a.lo in
    let k2 = Below a.hi (Product c.hi b.lo) in
    let k3 = Below a.hi (Product c.hi b.hi) in (
      λ h. let p = l.0 h.low in let q = g.0 h.high in
          both_true (at_most_holds (l0.0 p.0))
          (both_true (at_most_holds (l1.0 p.1))
          (both_true (at_most_holds (g0.0 q.0)) (both_true (at_most_holds (g1.0 q.1)) refl))),
      λ h.
          let r1 = both_right (holds k0) (list_all holds (k1 ∷ k2 ∷ k3 ∷ [])) h in
          let r2 = both_right (holds k1) (list_all holds (k2 ∷ k3 ∷ [])) r1 in
          let r3 = both_right (holds k2) (list_all holds (k3 ∷ [])) r2 in
          record {
            low = l.1 (
              l0.1 (at_most_true _ _ (both_left (holds k0) _ h)),
              l1.1 (at_most_true _ _ (both_left (holds k1) _ r1)),
            );
            high = g.1 (
              g0.1 (at_most_true _ _ (both_left (holds k2) _ r2)),
              g1.1 (at_most_true _ _ (both_left (holds k3) _ r3)),
            );
          },
    )

-- zero less a number below zero
flipped : (f : Formula) → Above (negative (formula_value f)) → Above (formula_value (Difference zero_span.lo f))
unfolding formula_value dyadic_value over
flipped f h =
    above_more h (le_of_equal
    (by_quotes {ρ = formula_value f ∷ []} {b = minus (whole (pos 0)) (formula_value f)} (search quotes depth 20)
    (search quotes depth 20) refl))

-- what a test of both_true ends says
apart_parts : (p q r s : Bool) → ((p && q) || (r && s)) ≡ true → ((p ≡ true) × (q ≡ true)) ⊎ ((r ≡ true) × (s ≡ true))
apart_parts true true r s e = inl (refl, refl)
apart_parts true false r s e = inr (both_left r s e, both_right r s e)
apart_parts false q r s e = inr (both_left r s e, both_right r s e)

not_both : (x : Rational) → is_positive x ≡ true → is_negative x ≡ true → ⊥
unfolding is_positive is_negative
not_both x p q = go x.top p q
  where
    go : (n : ℤ) → above_zero n ≡ true → below_zero n ≡ true → ⊥
    go (pos n) p q = absurd cc
    go (negsuc n) p q = absurd cc

pub quotient_around : (a b c : Span) → is_apart b ≡ true →
    Around c (quotient_bounds a b) ↔ (list_all holds (quotient_claims a b c) ≡ true)
quotient_around a b c apart = by (is_positive (formula_value b.lo)) refl
  where
    parts : ((is_positive (formula_value b.lo) ≡ true) × (is_positive (formula_value b.hi) ≡ true)) ⊎
        ((is_negative (formula_value b.lo) ≡ true) × (is_negative (formula_value b.hi) ≡ true))
    parts =
        apart_parts (is_positive (formula_value b.lo)) (is_positive (formula_value b.hi))
        (is_negative (formula_value b.lo)) (is_negative (formula_value b.hi)) apart

    over_zero : is_positive (formula_value b.lo) ≡ true → IsAbove b
    over_zero e =
        ⊎_elim (λ p. record { lo = positive_above _ p.0; hi = positive_above _ p.1 })
        (λ p. absurd (not_both (formula_value b.lo) e p.0)) parts

    under_zero : is_positive (formula_value b.lo) ≡ false → IsAbove (span_difference zero_span b)
    under_zero e =
        ⊎_elim (λ p. absurd (let q = p.0 in cc)) (λ p. record {
          lo = flipped b.hi (negative_above _ p.1);
          hi = flipped b.lo (negative_above _ p.0);
        }) parts

    by : (t : Bool) → is_positive (formula_value b.lo) ≡ t →
        Around c (if t then positive_bounds a b
        else positive_bounds (span_difference zero_span a) (span_difference zero_span b)) ↔
        (list_all holds (if t then positive_quotient_claims a b c
        else positive_quotient_claims (span_difference zero_span a) (span_difference zero_span b) c) ≡ true)
    by true e = positive_around a b c (over_zero e)
    by false e = positive_around (span_difference zero_span a) (span_difference zero_span b) c (under_zero e)
