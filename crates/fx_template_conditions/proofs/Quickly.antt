-- What is reckoned in 64 bits is what the formulas come to.
use Rattle.std.proofs.Common.{◌≡◌, Option, Some, None, IfSome, IsTrue, refl}
use Rattle.fx_rational.specs.Dyadic.{Dyadic, dyadic_product, dyadic_difference, difference_fits, product_fits, fits_128}
use Rattle.fx_rational.specs.Interval.{Interval, interval_product, interval_product_fits}
use Rattle.fx_inequalities.specs.Formula.{Formula, Num, Difference, Product, Span, point, span_product, formed, formula_fits}
use Rattle.fx_formulas.specs.Judging.{Forms, FormsSpan}
use Rattle.fx_formulas.proofs.Judged.{both_again, difference_forms, product_forms, times_forms}

pub number_forms : (d : Dyadic) → IsTrue (fits_128 d.m) → Forms (Some d) (Num d)
unfolding formula_fits formed
number_forms d h = (h, refl)

point_forms : (d : Dyadic) → IsTrue (fits_128 d.m) → FormsSpan (Some (record { lo = d; hi = d })) (point (Num d))
unfolding formula_fits formed
point_forms d h = (both_again (fits_128 d.m) (fits_128 d.m) h h, refl)

pub less_forms : (r : Option Dyadic) (l x y : Dyadic) (f g : Formula) → IsTrue (fits_128 x.m) → Forms (Some l) f →
    Forms (Some y) g → IfSome r (λ d. IsTrue (product_fits x y)) →
    IfSome r (λ d. IsTrue (difference_fits l (dyadic_product x y))) →
    IfSome r (λ d. d ≡ dyadic_difference l (dyadic_product x y)) →
    IfSome r (λ d. Forms (Some d) (Difference f (Product (Num x) g)))
less_forms None l x y f g n h k p q e = e
less_forms (Some d) l x y f g n h k p q e =
    let t = product_forms (Some (dyadic_product x y)) x y (Num x) g (p, refl) (number_forms x n) k in
    difference_forms (Some d) l (dyadic_product x y) f (Product (Num x) g) (q, e) h t

pub times_are : (r : Option Interval) (x : Dyadic) (v : Interval) (s : Span) → IsTrue (fits_128 x.m) →
    FormsSpan (Some v) s → IfSome r (λ i. IsTrue (interval_product_fits (record { lo = x; hi = x }) v)) →
    IfSome r (λ i. i ≡ interval_product (record { lo = x; hi = x }) v) →
    IfSome r (λ i. FormsSpan (Some i) (span_product (point (Num x)) s))
times_are None x v s n k p e = e
times_are (Some i) x v s n k p e =
    times_forms (Some i) (record { lo = x; hi = x }) v (point (Num x)) s (p, e) (point_forms x n) k
