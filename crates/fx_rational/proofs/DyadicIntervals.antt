-- Operations on intervals hold the operation of any two members.
use Rattle.std.proofs.Common.{◌≡◌, refl, ◌↔◌, Bool, true, false, ◌&&◌, IsTrue}
use Rattle.fx_rational.specs.Rational.{AtMost}
use Rattle.fx_rational.specs.Dyadic.{dyadic_value, dyadic_product, is_dyadic_at_most, least, greatest}
use Rattle.fx_rational.specs.Interval.{Interval, interval_sum, interval_difference, interval_product, is_inside, outward_to}
use Rattle.fx_rational.specs.DyadicLaws.{IntervalSumLaw, IntervalDifferenceLaw, IntervalProductLaw, InsideLaw, OutwardLaw}
use Rattle.fx_rational.proofs.Laws.{equal_sym, le_trans, le_of_equal, plus_le, minus_le}
use Rattle.fx_rational.proofs.Intervals.{product_low, product_high}
use Rattle.fx_rational.proofs.Dyadics.{sum_is, difference_is, product_is, at_most_law, least_is, greatest_is}
use Rattle.fx_rational.proofs.Roundings.{rounded_down_is, rounded_up_is}

pub sum_holds : IntervalSumLaw
unfolding interval_sum
sum_holds a b x y h k = record {
  low = le_trans (le_of_equal (sum_is a.lo b.lo)) (plus_le h.low k.low);
  high = le_trans (plus_le h.high k.high) (le_of_equal (equal_sym (sum_is a.hi b.hi)));
}

pub difference_holds : IntervalDifferenceLaw
unfolding interval_difference
difference_holds a b x y h k = record {
  low = le_trans (le_of_equal (difference_is a.lo b.hi)) (minus_le h.low k.high);
  high = le_trans (minus_le h.high k.low) (le_of_equal (equal_sym (difference_is a.hi b.lo)));
}

pub product_holds : IntervalProductLaw
unfolding interval_product
product_holds a b x y h k =
    let ll = dyadic_product a.lo b.lo in let lh = dyadic_product a.lo b.hi in let hl = dyadic_product a.hi b.lo in
    let hh = dyadic_product a.hi b.hi in
    let l = least_is (least ll lh) (least hl hh) in let l1 = least_is ll lh in let l2 = least_is hl hh in
    let g = greatest_is (greatest ll lh) (greatest hl hh) in let g1 = greatest_is ll lh in let g2 = greatest_is hl hh in
    record {
      low = product_low h.low h.high k.low k.high
          (le_trans l.left (le_trans l1.left (le_of_equal (product_is a.lo b.lo))))
          (le_trans l.left (le_trans l1.right (le_of_equal (product_is a.lo b.hi))))
          (le_trans l.right (le_trans l2.left (le_of_equal (product_is a.hi b.lo))))
          (le_trans l.right (le_trans l2.right (le_of_equal (product_is a.hi b.hi))));
      high = product_high h.low h.high k.low k.high
          (le_trans (le_of_equal (equal_sym (product_is a.lo b.lo))) (le_trans g1.left g.left))
          (le_trans (le_of_equal (equal_sym (product_is a.lo b.hi))) (le_trans g1.right g.left))
          (le_trans (le_of_equal (equal_sym (product_is a.hi b.lo))) (le_trans g2.left g.right))
          (le_trans (le_of_equal (equal_sym (product_is a.hi b.hi))) (le_trans g2.right g.right));
    }

-- ---- one interval in another
-- the ends of a lie within those of b
pub record EndsWithin (a b : Interval) : Type 0 where
  pub low : AtMost (dyadic_value b.lo) (dyadic_value a.lo)
  pub high : AtMost (dyadic_value a.hi) (dyadic_value b.hi)

pub inside_is : (a b : Interval) → IsTrue (is_inside a b) ↔ EndsWithin a b
unfolding is_inside
inside_is a b = (
  λ h. by (is_dyadic_at_most b.lo a.lo) (is_dyadic_at_most a.hi b.hi) refl refl h,
  λ h. rw ((at_most_law b.lo a.lo).1 h.low, (at_most_law a.hi b.hi).1 h.high) refl,
)
  where
    by : (s t : Bool) → is_dyadic_at_most b.lo a.lo ≡ s → is_dyadic_at_most a.hi b.hi ≡ t → IsTrue (s && t) →
        EndsWithin a b
    by true true p q h = record { low = (at_most_law b.lo a.lo).0 p; high = (at_most_law a.hi b.hi).0 q }
    by true false p q h = absurd cc
    by false t p q h = absurd cc

pub inside_holds : InsideLaw
inside_holds a b x t h =
    let w = (inside_is a b).0 t in record { low = le_trans w.low h.low; high = le_trans h.high w.high }

pub outward_is : OutwardLaw
unfolding outward_to
outward_is i e =
    let d = rounded_down_is i.lo e in let u = rounded_up_is i.hi e in
    record {
      low_exponent = d.exponent;
      high_exponent = u.exponent;
      round = (inside_is i _).1 (record { low = d.not_above; high = u.not_below });
      narrowest = λ j p q t. let w = (inside_is i j).0 t in
          (inside_is _ j).1 (record { low = d.greatest j.lo p w.low; high = u.least j.hi q w.high });
    }
