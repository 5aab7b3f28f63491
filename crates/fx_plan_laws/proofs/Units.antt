-- Whole numbers of units 2^-f as written dyadics: their mantissas at an exponent, what lies inside, and what a text can
-- spell.
use Rattle.std.proofs.Common.{◌≡◌, ℕ, zero, suc, ◌+◌, ◌-◌, ◌*◌, ◌^◌, ◌<◌, ◌≤◌, Bool, true, false, if◌then◌else◌, ℤ, pos, negsuc, ◌*ℤ◌, neg_ℤ, ◌≤ℤ◌, refl, sym, ap, subst, ◌∙◌, arith, pow-add, pow_pos}
use Rattle.std.specs.Prelude.{unsigned_abs}
use Rattle.std.proofs.Math.Nat.{le-mul_of_pos_right}
use Rattle.std.proofs.lemmas.Int.{ints}
use Rattle.fx_rational.proofs.Integers.{neg_ℤ-*ℤ, *ℤ_assoc}
use Rattle.fx_model.specs.Machine.{Round, Floor, Nearest}
use Rattle.fx_rational.specs.Rational.{floor_div}
use Rattle.fx_rational.specs.Dyadic.{Dyadic, aligned, IsWritten}
use Rattle.fx_rational.specs.Interval.{IsWrittenInterval}
use Rattle.fx_rational.proofs.Lowest.{size-neg_ℤ}
use Rattle.fx_inequalities.specs.Formula.{Num, formed, Span, span, unit_at, roundoff_at}
use Rattle.fx_inequalities.specs.Claim.{inside}
use Rattle.fx_inequalities.specs.OperationSpans.{roundoff_of}
use Rattle.fx_outward.specs.Grid.{is_even, lowest_dyadic}
use Rattle.fx_outward.proofs.Grids.{half_of, lowest_dyadic_is}
use Rattle.fx_plan_laws.proofs.Claims.{AreMet, inside_met, le_formed, number_formed}
use Rattle.fx_plan_laws.proofs.Powers.{power_small, power_more}
use Rattle.fx_plan_laws.proofs.Sizes.{IsUpTo, IsSmall, IsSmallSpan, small_number, within_pos, aligned_up, small_zero, zero_interval_small}
use Rattle.fx_plan_laws.specs.CalmPlan.{units}

-- ---- mantissas
pub lowest_places : (m : ℤ) (e : ℕ) → (lowest_dyadic m e).e ≤ e
lowest_places m e = (lowest_dyadic_is m e).places

halved_power : (h : ℤ) (d : ℕ) → h *ℤ pos (2 ^ (suc d)) ≡ (h *ℤ pos (2 ^ d)) *ℤ pos 2
halved_power h d = ap (λ (k : ℕ). h *ℤ pos k) (ap (λ (n : ℕ). 2 ^ n) (omega arith) ∙ pow-add 2 d 1)
    ∙ sym (*ℤ_assoc h (pos (2 ^ d)) (pos 2))

whole_at : (m : ℤ) → m *ℤ pos (2 ^ 0) ≡ m
whole_at m = omega (arith, ints)

-- at the exponent e it is m again
pub lowest_aligned : (m : ℤ) (e : ℕ) → aligned (lowest_dyadic m e) e ≡ m
unfolding lowest_dyadic
lowest_aligned m zero = whole_at m
lowest_aligned m (suc e) = by (is_even m) refl (lowest_aligned (floor_div m 2) e) (lowest_places (floor_div m 2) e)
  where
    same : (n : ℕ) → n - n ≡ 0
    same n = omega arith

    by : (t : Bool) → is_even m ≡ t → aligned (lowest_dyadic (floor_div m 2) e) e ≡ floor_div m 2 →
        (lowest_dyadic (floor_div m 2) e).e ≤ e →
        aligned (if t then lowest_dyadic (floor_div m 2) e else record { m = m; e = suc e }) (suc e) ≡ m
    by true t h p =
        let d = lowest_dyadic (floor_div m 2) e in
        let n : suc e - d.e ≡ suc (e - d.e) = omega (arith, p) in
        ap (λ (k : ℕ). d.m *ℤ pos (2 ^ k)) n ∙ halved_power d.m (e - d.e) ∙ ap (λ (z : ℤ). z *ℤ pos 2) h ∙ half_of m t
    by false t h p = ap (λ (k : ℕ). m *ℤ pos (2 ^ k)) (same (suc e)) ∙ whole_at m

-- at a greater one it is so many times as much
pub lowest_aligned_up : (m : ℤ) (e E : ℕ) → e ≤ E → aligned (lowest_dyadic m e) E ≡ m *ℤ pos (2 ^ (E - e))
lowest_aligned_up m e E l = sym (aligned_up (lowest_dyadic m e) e E (lowest_places m e) l)
    ∙ ap (λ (z : ℤ). z *ℤ pos (2 ^ (E - e))) (lowest_aligned m e)

-- ---- units
minus_up_to : (r : ℕ) → IsUpTo r (neg_ℤ (pos r))
minus_up_to r = record { low = omega (arith, ints); high = omega (arith, ints) }

small_lowest : (m : ℤ) (f k : ℕ) → k < 2 ^ 127 → IsUpTo k m → IsSmall f k (Num (lowest_dyadic m f))
small_lowest m f k l h =
    small_number (lowest_dyadic m f) f k (lowest_places m f) (subst (IsUpTo k) (sym (lowest_aligned m f)) h) l

-- from -r to r units
pub small_units : (f r : ℕ) → r < 2 ^ 127 → IsSmallSpan f r (span (units f r))
small_units f r l =
    record { lo = small_lowest (neg_ℤ (pos r)) f r l (minus_up_to r); hi = small_lowest (pos r) f r l (within_pos r) }

-- what is small by r at the exponent E lies inside, r units being r * 2^(E - f) there
pub inside_units_at : {f E m : ℕ} (r : ℕ) (s : Span) → f ≤ E → r < 2 ^ 127 → m ≤ r * 2 ^ (E - f) → IsSmallSpan E m s →
    AreMet (inside s (span (units f r)))
inside_units_at {f} {E} {m} r s up few le small =
    let own = small_units f r few in
    let lo_places = lowest_places (neg_ℤ (pos r)) f in let hi_places = lowest_places (pos r) f in
    let lo_at : aligned (lowest_dyadic (neg_ℤ (pos r)) f) E ≡ neg_ℤ (pos (r * 2 ^ (E - f))) =
    lowest_aligned_up (neg_ℤ (pos r)) f E up ∙ neg_ℤ-*ℤ (pos r) (pos (2 ^ (E - f))) in
    let hi_at : aligned (lowest_dyadic (pos r) f) E ≡ pos (r * 2 ^ (E - f)) = lowest_aligned_up (pos r) f E up in
    let low = small.lo.size.low in let high = small.hi.size.high in
    inside_met s (span (units f r)) small.lo.fits small.hi.fits own.lo.fits own.hi.fits
    (le_formed {e = E} (Num (lowest_dyadic (neg_ℤ (pos r)) f)) s.lo
    (subst (λ (d : Dyadic). d.e ≤ E) (sym (number_formed (lowest_dyadic (neg_ℤ (pos r)) f)))
    (omega (arith, lo_places, up))) small.lo.places
    (subst (λ (d : Dyadic). aligned d E ≤ℤ aligned (formed s.lo) E)
    (sym (number_formed (lowest_dyadic (neg_ℤ (pos r)) f)))
    (subst (λ (z : ℤ). z ≤ℤ aligned (formed s.lo) E) (sym lo_at) (omega (arith, ints, low, le)))))
    (le_formed {e = E} s.hi (Num (lowest_dyadic (pos r) f)) small.hi.places
    (subst (λ (d : Dyadic). d.e ≤ E) (sym (number_formed (lowest_dyadic (pos r) f))) (omega (arith, hi_places, up)))
    (subst (λ (d : Dyadic). aligned (formed s.hi) E ≤ℤ aligned d E) (sym (number_formed (lowest_dyadic (pos r) f)))
    (subst (λ (z : ℤ). aligned (formed s.hi) E ≤ℤ z) (sym hi_at) (omega (arith, ints, high, le)))))

pub inside_units : {f m : ℕ} (r : ℕ) (s : Span) → r < 2 ^ 127 → m ≤ r → IsSmallSpan f m s →
    AreMet (inside s (span (units f r)))
inside_units {f} {m} r s few le small =
    inside_units_at {f = f} {E = f} {m = m} r s (omega arith) few (let z : f - f ≡ 0 = omega arith in
    subst (λ (k : ℕ). m ≤ r * 2 ^ k) (sym z) (omega (arith, le))) small

-- ---- units and roundoffs
-- a unit at the exponent E
pub small_unit : (f E : ℕ) → f ≤ E → E ≤ 126 → IsSmall E (2 ^ (E - f)) (unit_at (pos f))
small_unit f E up few =
    small_number (record { m = pos 1; e = f }) E (2 ^ (E - f)) up
    (record { low = omega (arith, ints); high = omega (arith, ints) }) (unit_few f E few)
  where
    unit_few : (f E : ℕ) → E ≤ 126 → 2 ^ (E - f) < 2 ^ 127
    unit_few f E few = power_small (omega (arith, few))

small_roundoff : (f E s : ℕ) → f ≤ E → E ≤ 126 → IsSmallSpan E (2 ^ (E - f)) (roundoff_at (pos f) (pos s))
small_roundoff f E zero up few = zero_interval_small E (2 ^ (E - f)) (power_small (omega (arith, few)))
small_roundoff f E (suc s) up few = record {
  lo =
      small_number (record { m = negsuc 0; e = f }) E (2 ^ (E - f)) up
      (record { low = omega (arith, ints); high = omega (arith, ints) }) (power_small (omega (arith, few)));
  hi = small_zero E (2 ^ (E - f)) (power_small (omega (arith, few)));
}

-- half a unit to either side lies within a unit
pub small_rounding : (r : Round) (f E s : ℕ) → f < E → E ≤ 126 →
    IsSmallSpan E (2 ^ (E - f)) (roundoff_of r (pos f) (pos s))
small_rounding Floor f E s up few = small_roundoff f E s (omega (arith, up)) few
small_rounding Nearest f E s up few =
    let half = power_more {a = E - (f + 1)} {b = E - f} (omega arith) in
    let whole = power_small {k = E - f} (omega (arith, few)) in
    record {
      lo =
          small_number (record { m = negsuc 0; e = f + 1 }) E (2 ^ (E - f)) (omega (arith, up))
          (record { low = omega (arith, ints, half); high = omega (arith, ints) }) whole;
      hi =
          small_number (record { m = pos 1; e = f + 1 }) E (2 ^ (E - f)) (omega (arith, up))
          (record { low = omega (arith, ints); high = omega (arith, ints, half) }) whole;
    }

-- ---- a text can spell them
mantissa_few : (d : Dyadic) (e r : ℕ) → d.e ≤ e → unsigned_abs (aligned d e) ≡ r → unsigned_abs d.m ≤ r
mantissa_few d e r h is = by d.m (2 ^ (e - d.e)) (pow_pos (e - d.e)) is
  where
    by : (m : ℤ) (k : ℕ) → 0 < k → unsigned_abs (m *ℤ pos k) ≡ r → unsigned_abs m ≤ r
    by (pos n) k some is = let l = le-mul_of_pos_right {m = k} n some in omega (arith, l, is)
    by (negsuc n) k some is =
        let l = le-mul_of_pos_right {m = k} (suc n) some in
        let s = size-neg_ℤ (pos (suc n * k)) in
        omega (arith, l, is, s)

lowest_written : (m : ℤ) (f r : ℕ) → f ≤ 96 → r < 2 ^ 62 → unsigned_abs m ≡ r → IsWritten (lowest_dyadic m f)
lowest_written m f r few l is =
    let h = lowest_dyadic_is m f in let p = h.places in
    let a = mantissa_few (lowest_dyadic m f) f r p (ap unsigned_abs (lowest_aligned m f) ∙ is) in
    record { small = omega (arith, a, l); places = omega (arith, p, few); one_spelling = h.lowest }

pub units_written : (f r : ℕ) → f ≤ 96 → r < 2 ^ 62 → IsWrittenInterval (units f r)
units_written f r few l =
    (lowest_written (neg_ℤ (pos r)) f r few l (size-neg_ℤ (pos r)), lowest_written (pos r) f r few l refl)
