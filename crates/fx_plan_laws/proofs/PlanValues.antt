-- What written units stand for, and comparisons of them with fractions.
use Rattle.std.proofs.Common.{ℕ, ◌+◌, ◌^◌, [], ◌∷◌, ℤ, pos, neg_ℤ, refl, sym, subst, pow_pos}
use Rattle.fx_rational.specs.Rational.{Rational, whole, plus, times, negative, scaled, floor, Equal, AtMost}
use Rattle.fx_rational.specs.Dyadic.{dyadic_value}
use Rattle.fx_rational.proofs.Ring.{by_quotes, quotes}
use Rattle.fx_rational.proofs.Laws.{equal_refl, equal_sym, equal_trans, le_trans, le_of_equal, times_le, negative_le, gap, ordered, nonneg_times, times_same, plus_same, minus_same, negative_same}
use Rattle.fx_rational.proofs.Quotient.{above_nonneg}
use Rattle.fx_rational.proofs.Floors.{floor_floors, floor-greatest}
use Rattle.fx_rational.proofs.Dyadics.{as_written}
use Rattle.fx_rational.proofs.Powers.{power, power_above, unit, unit_above, unit_power, over_scaled, scaled_is, whole_order}
use Rattle.fx_bounds.proofs.Words.{unit_at_is}
use Rattle.fx_inequalities.specs.Formula.{Num, Sum, Difference, formula_value, word_at, unit_at}
use Rattle.fx_outward.specs.Grid.{lowest_dyadic}
use Rattle.fx_outward.proofs.Grids.{lowest_dyadic_is}
use Rattle.fx_plan_laws.specs.Powers.{magnitude}
use Rattle.fx_plan_laws.proofs.Values.{magnitude_above, magnitude_below, from_magnitude_low, from_magnitude_high, sum_value, difference_value, lost_word, less_unit, more_unit}
use Rattle.fx_plan_laws.proofs.Sizes.{IsUpTo}
use Rattle.fx_plan_laws.proofs.Factors.{natural_sum}

-- ---- m units
written_value : (m : ℤ) (f : ℕ) → Equal (dyadic_value (as_written m f)) (times (whole m) (unit (pos f)))
unfolding dyadic_value
written_value m f = over_scaled m (2 ^ f) (pow_pos f) (unit (pos f)) (unit_power f)

pub units_value : (m : ℤ) (f : ℕ) → Equal (formula_value (Num (lowest_dyadic m f))) (times (whole m) (unit (pos f)))
unfolding formula_value
units_value m f = equal_trans (lowest_dyadic_is m f).value (written_value m f)

pub whole_negative : (w : ℤ) → Equal (whole (neg_ℤ w)) (negative (whole w))
unfolding negative
whole_negative w = equal_refl _

pub minus_units_value : (r f : ℕ) →
    Equal (formula_value (Num (lowest_dyadic (neg_ℤ (pos r)) f))) (negative (times (whole (pos r)) (unit (pos f))))
minus_units_value r f = equal_trans (units_value (neg_ℤ (pos r)) f) (by (unit (pos f)))
  where
    minus_whole : Equal (whole (neg_ℤ (pos r))) (negative (whole (pos r)))
    minus_whole = whole_negative (pos r)

    by : (u : Rational) → Equal (times (whole (neg_ℤ (pos r))) u) (negative (times (whole (pos r)) u))
    by u =
        equal_trans (times_same minus_whole (equal_refl u))
        (by_quotes {ρ = whole (pos r) ∷ u ∷ []} (search quotes depth 20) (search quotes depth 20) refl)

-- x * 2^f is at most r where x is at most r units
pub to_units : (x : Rational) (r f : ℕ) → AtMost (times x (power f)) (whole (pos r)) →
    AtMost x (times (whole (pos r)) (unit (pos f)))
to_units x r f h = le_trans (le_of_equal (equal_sym back)) (times_le h (above_nonneg (unit_above (pos f))))
  where
    back : Equal (times (times x (power f)) (unit (pos f))) x
    back =
        equal_trans (by_quotes {ρ = x ∷ power f ∷ unit (pos f) ∷ []} {b = times x (times (unit (pos f)) (power f))}
        (search quotes depth 20) (search quotes depth 20) refl)
        (equal_trans (times_same (equal_refl x) (unit_power f))
        (by_quotes {ρ = x ∷ []} (search quotes depth 20) (search quotes depth 20) refl))

-- ---- ends of intervals
-- a number whose size is at most r units is from -r to r units
pub below_end : (x : Rational) (r f : ℕ) → AtMost (times (magnitude x) (power f)) (whole (pos r)) →
    AtMost (formula_value (Num (lowest_dyadic (neg_ℤ (pos r)) f))) x
below_end x r f h = le_trans (le_of_equal (minus_units_value r f)) (from_magnitude_low (to_units (magnitude x) r f h))

pub above_end : (x : Rational) (r f : ℕ) → AtMost (times (magnitude x) (power f)) (whole (pos r)) →
    AtMost x (formula_value (Num (lowest_dyadic (pos r) f)))
above_end x r f h =
    le_trans (from_magnitude_high (to_units (magnitude x) r f h)) (le_of_equal (equal_sym (units_value (pos r) f)))

-- ---- the reading of an input: a unit more
one_unit_less : (err r u : Rational) → AtMost err (times r u) →
    AtMost (plus (negative (times (plus r (whole (pos 1))) u)) u) (negative err)
one_unit_less err r u h =
    ordered (gap h) (by_quotes {ρ = err ∷ r ∷ u ∷ []} (search quotes depth 20) (search quotes depth 20) refl)

pub error_end : (err : Rational) (r f : ℕ) → AtMost (times err (power f)) (whole (pos r)) →
    AtMost (formula_value (Sum (Num (lowest_dyadic (neg_ℤ (pos (r + 1))) f)) (unit_at (pos f)))) (negative err)
error_end err r f h =
    let u = unit (pos f) in
    subst (λ (v : Rational). AtMost v (negative err))
    (sym (sum_value (Num (lowest_dyadic (neg_ℤ (pos (r + 1))) f)) (unit_at (pos f))))
    (le_trans (le_of_equal (plus_same
    (equal_trans (minus_units_value (r + 1) f) (negative_same (times_same one_more (equal_refl u))))
    (unit_at_is (pos f))))
    (one_unit_less err (whole (pos r)) (unit (pos f)) (to_units err r f h)))
  where
    one_more : Equal (whole (pos (r + 1))) (plus (whole (pos r)) (whole (pos 1)))
    one_more = natural_sum r 1

-- ---- words
-- a number whose size is at most r units has a word from -r to r
pub word_up_to : (x : Rational) (r f : ℕ) → AtMost (times (magnitude x) (power f)) (whole (pos r)) →
    IsUpTo r (floor (scaled x (pos f)))
word_up_to x r f h =
    let p = above_nonneg (power_above f) in
    record {
      low =
          floor-greatest (scaled x (pos f)) (neg_ℤ (pos r))
          (le_trans (le_of_equal (whole_negative (pos r)))
          (le_trans (negative_le h) (le_trans low_part (le_of_equal (equal_sym (scaled_is x f))))));
      high =
          whole_order (le_trans (floor_floors (scaled x (pos f))).low
          (le_trans (le_of_equal (scaled_is x f)) (le_trans (times_le (magnitude_above x) p) h)));
    }
  where
    low_part : AtMost (negative (times (magnitude x) (power f))) (times x (power f))
    low_part =
        ordered (nonneg_times (gap (magnitude_below x)) (above_nonneg (power_above f)))
        (by_quotes {ρ = x ∷ magnitude x ∷ power f ∷ []} (search quotes depth 20) (search quotes depth 20) refl)

-- a word less one unit isn't above what it is the floor of, and a unit more isn't below
pub word_low : (x : Rational) (f : ℕ) →
    AtMost (formula_value (Difference (word_at (floor (scaled x (pos f))) (pos f)) (Num (lowest_dyadic (pos 1) f)))) x
word_low x f =
    let v = formula_value (word_at (floor (scaled x (pos f))) (pos f)) in let u = unit (pos f) in
    subst (λ (r : Rational). AtMost r x)
    (sym (difference_value (word_at (floor (scaled x (pos f))) (pos f)) (Num (lowest_dyadic (pos 1) f))))
    (le_trans (le_of_equal (minus_same (equal_refl v)
    (equal_trans (units_value (pos 1) f)
    (by_quotes {ρ = u ∷ []} {b = u} (search quotes depth 20) (search quotes depth 20) refl))))
    (less_unit v u x (above_nonneg (unit_above (pos f))) (lost_word x (pos f))))

pub word_high : (x : Rational) (f : ℕ) →
    AtMost x (formula_value
    (Difference (word_at (floor (scaled x (pos f))) (pos f)) (Num (lowest_dyadic (neg_ℤ (pos 1)) f))))
word_high x f =
    let v = formula_value (word_at (floor (scaled x (pos f))) (pos f)) in let u = unit (pos f) in
    subst (λ (r : Rational). AtMost x r)
    (sym (difference_value (word_at (floor (scaled x (pos f))) (pos f)) (Num (lowest_dyadic (neg_ℤ (pos 1)) f))))
    (le_trans (more_unit v u x (lost_word x (pos f)))
    (le_of_equal (equal_sym
    (minus_same (equal_refl v)
    (equal_trans (minus_units_value 1 f)
    (negative_same (by_quotes {ρ = u ∷ []} {b = u} (search quotes depth 20) (search quotes depth 20) refl)))))))
