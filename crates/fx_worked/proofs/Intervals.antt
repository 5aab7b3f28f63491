-- Worked intervals, by whole numbers without bound in another language: a wrong definition here is refused.
use Rattle.std.specs.Prelude.{◌≡◌, ℕ, ℤ, pos, negsuc, Bool, true, false, if◌then◌else◌, Option, Some, None, refl}
use Rattle.fx_rational.specs.Rational.{over, is_at_most}
use Rattle.fx_rational.specs.Dyadic.{dyadic_value, dyadic_sum, dyadic_difference, dyadic_product, sum_fits, difference_fits, product_fits, fits_128, least, greatest, rounded_down, rounded_up}
use Rattle.fx_rational.specs.Interval.{Interval, interval_sum, interval_difference, interval_product, interval_sum_fits, interval_difference_fits, interval_product_fits, is_inside, outward_to}

-- from a / 2^b to c / 2^e
abbrev iv : ℤ → ℕ → ℤ → ℕ → Interval
iv a b c e = record { lo = record { m = a; e = b }; hi = record { m = c; e = e } }

-- the interval where it fits
abbrev fitting : Bool → Interval → Option Interval
fitting fits i = if fits then Some i else None

-- ---- sums, differences, products, and one inside another

operation_1 : (fitting (interval_sum_fits (iv (pos 1) 0 (pos 2) 0) (iv (pos 3) 0 (pos 5) 0))
    (interval_sum (iv (pos 1) 0 (pos 2) 0) (iv (pos 3) 0 (pos 5) 0)) ≡ Some (iv (pos 4) 0 (pos 7) 0)) ×
    (fitting (interval_difference_fits (iv (pos 1) 0 (pos 2) 0) (iv (pos 3) 0 (pos 5) 0))
    (interval_difference (iv (pos 1) 0 (pos 2) 0) (iv (pos 3) 0 (pos 5) 0)) ≡ Some (iv (negsuc 3) 0 (negsuc 0) 0)) ×
    (fitting (interval_product_fits (iv (pos 1) 0 (pos 2) 0) (iv (pos 3) 0 (pos 5) 0))
    (interval_product (iv (pos 1) 0 (pos 2) 0) (iv (pos 3) 0 (pos 5) 0)) ≡ Some (iv (pos 3) 0 (pos 10) 0)) ×
    (is_inside (iv (pos 1) 0 (pos 2) 0) (iv (pos 3) 0 (pos 5) 0) ≡ false)
unfolding interval_sum interval_difference interval_product interval_sum_fits interval_difference_fits
    interval_product_fits is_inside dyadic_sum dyadic_difference dyadic_product sum_fits difference_fits product_fits
    fits_128 least greatest dyadic_value over is_at_most
operation_1 = (refl, refl, refl, refl)

operation_2 : (fitting (interval_sum_fits (iv (negsuc 0) 0 (pos 2) 0) (iv (negsuc 2) 0 (pos 5) 0))
    (interval_sum (iv (negsuc 0) 0 (pos 2) 0) (iv (negsuc 2) 0 (pos 5) 0)) ≡ Some (iv (negsuc 3) 0 (pos 7) 0)) ×
    (fitting (interval_difference_fits (iv (negsuc 0) 0 (pos 2) 0) (iv (negsuc 2) 0 (pos 5) 0))
    (interval_difference (iv (negsuc 0) 0 (pos 2) 0) (iv (negsuc 2) 0 (pos 5) 0)) ≡ Some (iv (negsuc 5) 0 (pos 5) 0)) ×
    (fitting (interval_product_fits (iv (negsuc 0) 0 (pos 2) 0) (iv (negsuc 2) 0 (pos 5) 0))
    (interval_product (iv (negsuc 0) 0 (pos 2) 0) (iv (negsuc 2) 0 (pos 5) 0)) ≡ Some (iv (negsuc 5) 0 (pos 10) 0)) ×
    (is_inside (iv (negsuc 0) 0 (pos 2) 0) (iv (negsuc 2) 0 (pos 5) 0) ≡ true)
unfolding interval_sum interval_difference interval_product interval_sum_fits interval_difference_fits
    interval_product_fits is_inside dyadic_sum dyadic_difference dyadic_product sum_fits difference_fits product_fits
    fits_128 least greatest dyadic_value over is_at_most
operation_2 = (refl, refl, refl, refl)

operation_3 : (fitting (interval_sum_fits (iv (negsuc 1) 0 (negsuc 0) 0) (iv (negsuc 4) 0 (negsuc 2) 0))
    (interval_sum (iv (negsuc 1) 0 (negsuc 0) 0) (iv (negsuc 4) 0 (negsuc 2) 0))
    ≡ Some (iv (negsuc 6) 0 (negsuc 3) 0)) ×
    (fitting (interval_difference_fits (iv (negsuc 1) 0 (negsuc 0) 0) (iv (negsuc 4) 0 (negsuc 2) 0))
    (interval_difference (iv (negsuc 1) 0 (negsuc 0) 0) (iv (negsuc 4) 0 (negsuc 2) 0))
    ≡ Some (iv (pos 1) 0 (pos 4) 0)) ×
    (fitting (interval_product_fits (iv (negsuc 1) 0 (negsuc 0) 0) (iv (negsuc 4) 0 (negsuc 2) 0))
    (interval_product (iv (negsuc 1) 0 (negsuc 0) 0) (iv (negsuc 4) 0 (negsuc 2) 0)) ≡ Some (iv (pos 3) 0 (pos 10) 0)) ×
    (is_inside (iv (negsuc 1) 0 (negsuc 0) 0) (iv (negsuc 4) 0 (negsuc 2) 0) ≡ false)
unfolding interval_sum interval_difference interval_product interval_sum_fits interval_difference_fits
    interval_product_fits is_inside dyadic_sum dyadic_difference dyadic_product sum_fits difference_fits product_fits
    fits_128 least greatest dyadic_value over is_at_most
operation_3 = (refl, refl, refl, refl)

operation_4 : (fitting (interval_sum_fits (iv (negsuc 1) 0 (negsuc 0) 0) (iv (pos 3) 0 (pos 5) 0))
    (interval_sum (iv (negsuc 1) 0 (negsuc 0) 0) (iv (pos 3) 0 (pos 5) 0)) ≡ Some (iv (pos 1) 0 (pos 4) 0)) ×
    (fitting (interval_difference_fits (iv (negsuc 1) 0 (negsuc 0) 0) (iv (pos 3) 0 (pos 5) 0))
    (interval_difference (iv (negsuc 1) 0 (negsuc 0) 0) (iv (pos 3) 0 (pos 5) 0))
    ≡ Some (iv (negsuc 6) 0 (negsuc 3) 0)) ×
    (fitting (interval_product_fits (iv (negsuc 1) 0 (negsuc 0) 0) (iv (pos 3) 0 (pos 5) 0))
    (interval_product (iv (negsuc 1) 0 (negsuc 0) 0) (iv (pos 3) 0 (pos 5) 0)) ≡ Some (iv (negsuc 9) 0 (negsuc 2) 0)) ×
    (is_inside (iv (negsuc 1) 0 (negsuc 0) 0) (iv (pos 3) 0 (pos 5) 0) ≡ false)
unfolding interval_sum interval_difference interval_product interval_sum_fits interval_difference_fits
    interval_product_fits is_inside dyadic_sum dyadic_difference dyadic_product sum_fits difference_fits product_fits
    fits_128 least greatest dyadic_value over is_at_most
operation_4 = (refl, refl, refl, refl)

operation_5 : (fitting (interval_sum_fits (iv (pos 1) 0 (pos 2) 0) (iv (pos 1) 0 (pos 2) 0))
    (interval_sum (iv (pos 1) 0 (pos 2) 0) (iv (pos 1) 0 (pos 2) 0)) ≡ Some (iv (pos 2) 0 (pos 4) 0)) ×
    (fitting (interval_difference_fits (iv (pos 1) 0 (pos 2) 0) (iv (pos 1) 0 (pos 2) 0))
    (interval_difference (iv (pos 1) 0 (pos 2) 0) (iv (pos 1) 0 (pos 2) 0)) ≡ Some (iv (negsuc 0) 0 (pos 1) 0)) ×
    (fitting (interval_product_fits (iv (pos 1) 0 (pos 2) 0) (iv (pos 1) 0 (pos 2) 0))
    (interval_product (iv (pos 1) 0 (pos 2) 0) (iv (pos 1) 0 (pos 2) 0)) ≡ Some (iv (pos 1) 0 (pos 4) 0)) ×
    (is_inside (iv (pos 1) 0 (pos 2) 0) (iv (pos 1) 0 (pos 2) 0) ≡ true)
unfolding interval_sum interval_difference interval_product interval_sum_fits interval_difference_fits
    interval_product_fits is_inside dyadic_sum dyadic_difference dyadic_product sum_fits difference_fits product_fits
    fits_128 least greatest dyadic_value over is_at_most
operation_5 = (refl, refl, refl, refl)

operation_6 : (fitting (interval_sum_fits (iv (pos 1) 0 (pos 2) 0) (iv (pos 2) 1 (pos 4) 1))
    (interval_sum (iv (pos 1) 0 (pos 2) 0) (iv (pos 2) 1 (pos 4) 1)) ≡ Some (iv (pos 4) 1 (pos 8) 1)) ×
    (fitting (interval_difference_fits (iv (pos 1) 0 (pos 2) 0) (iv (pos 2) 1 (pos 4) 1))
    (interval_difference (iv (pos 1) 0 (pos 2) 0) (iv (pos 2) 1 (pos 4) 1)) ≡ Some (iv (negsuc 1) 1 (pos 2) 1)) ×
    (fitting (interval_product_fits (iv (pos 1) 0 (pos 2) 0) (iv (pos 2) 1 (pos 4) 1))
    (interval_product (iv (pos 1) 0 (pos 2) 0) (iv (pos 2) 1 (pos 4) 1)) ≡ Some (iv (pos 2) 1 (pos 8) 1)) ×
    (is_inside (iv (pos 1) 0 (pos 2) 0) (iv (pos 2) 1 (pos 4) 1) ≡ true)
unfolding interval_sum interval_difference interval_product interval_sum_fits interval_difference_fits
    interval_product_fits is_inside dyadic_sum dyadic_difference dyadic_product sum_fits difference_fits product_fits
    fits_128 least greatest dyadic_value over is_at_most
operation_6 = (refl, refl, refl, refl)

operation_7 : (fitting (interval_sum_fits (iv (pos 2) 1 (pos 4) 1) (iv (pos 1) 0 (pos 2) 0))
    (interval_sum (iv (pos 2) 1 (pos 4) 1) (iv (pos 1) 0 (pos 2) 0)) ≡ Some (iv (pos 4) 1 (pos 8) 1)) ×
    (fitting (interval_difference_fits (iv (pos 2) 1 (pos 4) 1) (iv (pos 1) 0 (pos 2) 0))
    (interval_difference (iv (pos 2) 1 (pos 4) 1) (iv (pos 1) 0 (pos 2) 0)) ≡ Some (iv (negsuc 1) 1 (pos 2) 1)) ×
    (fitting (interval_product_fits (iv (pos 2) 1 (pos 4) 1) (iv (pos 1) 0 (pos 2) 0))
    (interval_product (iv (pos 2) 1 (pos 4) 1) (iv (pos 1) 0 (pos 2) 0)) ≡ Some (iv (pos 2) 1 (pos 8) 1)) ×
    (is_inside (iv (pos 2) 1 (pos 4) 1) (iv (pos 1) 0 (pos 2) 0) ≡ true)
unfolding interval_sum interval_difference interval_product interval_sum_fits interval_difference_fits
    interval_product_fits is_inside dyadic_sum dyadic_difference dyadic_product sum_fits difference_fits product_fits
    fits_128 least greatest dyadic_value over is_at_most
operation_7 = (refl, refl, refl, refl)

operation_8 : (fitting (interval_sum_fits (iv (pos 1) 0 (pos 2) 0) (iv (pos 0) 0 (pos 2) 0))
    (interval_sum (iv (pos 1) 0 (pos 2) 0) (iv (pos 0) 0 (pos 2) 0)) ≡ Some (iv (pos 1) 0 (pos 4) 0)) ×
    (fitting (interval_difference_fits (iv (pos 1) 0 (pos 2) 0) (iv (pos 0) 0 (pos 2) 0))
    (interval_difference (iv (pos 1) 0 (pos 2) 0) (iv (pos 0) 0 (pos 2) 0)) ≡ Some (iv (negsuc 0) 0 (pos 2) 0)) ×
    (fitting (interval_product_fits (iv (pos 1) 0 (pos 2) 0) (iv (pos 0) 0 (pos 2) 0))
    (interval_product (iv (pos 1) 0 (pos 2) 0) (iv (pos 0) 0 (pos 2) 0)) ≡ Some (iv (pos 0) 0 (pos 4) 0)) ×
    (is_inside (iv (pos 1) 0 (pos 2) 0) (iv (pos 0) 0 (pos 2) 0) ≡ true)
unfolding interval_sum interval_difference interval_product interval_sum_fits interval_difference_fits
    interval_product_fits is_inside dyadic_sum dyadic_difference dyadic_product sum_fits difference_fits product_fits
    fits_128 least greatest dyadic_value over is_at_most
operation_8 = (refl, refl, refl, refl)

operation_9 : (fitting (interval_sum_fits (iv (pos 1) 0 (pos 2) 0) (iv (pos 1) 0 (pos 3) 1))
    (interval_sum (iv (pos 1) 0 (pos 2) 0) (iv (pos 1) 0 (pos 3) 1)) ≡ Some (iv (pos 2) 0 (pos 7) 1)) ×
    (fitting (interval_difference_fits (iv (pos 1) 0 (pos 2) 0) (iv (pos 1) 0 (pos 3) 1))
    (interval_difference (iv (pos 1) 0 (pos 2) 0) (iv (pos 1) 0 (pos 3) 1)) ≡ Some (iv (negsuc 0) 1 (pos 1) 0)) ×
    (fitting (interval_product_fits (iv (pos 1) 0 (pos 2) 0) (iv (pos 1) 0 (pos 3) 1))
    (interval_product (iv (pos 1) 0 (pos 2) 0) (iv (pos 1) 0 (pos 3) 1)) ≡ Some (iv (pos 1) 0 (pos 6) 1)) ×
    (is_inside (iv (pos 1) 0 (pos 2) 0) (iv (pos 1) 0 (pos 3) 1) ≡ false)
unfolding interval_sum interval_difference interval_product interval_sum_fits interval_difference_fits
    interval_product_fits is_inside dyadic_sum dyadic_difference dyadic_product sum_fits difference_fits product_fits
    fits_128 least greatest dyadic_value over is_at_most
operation_9 = (refl, refl, refl, refl)

operation_10 : (fitting (interval_sum_fits (iv (pos 1) 0 (pos 2) 0) (iv (pos 3) 1 (pos 2) 0))
    (interval_sum (iv (pos 1) 0 (pos 2) 0) (iv (pos 3) 1 (pos 2) 0)) ≡ Some (iv (pos 5) 1 (pos 4) 0)) ×
    (fitting (interval_difference_fits (iv (pos 1) 0 (pos 2) 0) (iv (pos 3) 1 (pos 2) 0))
    (interval_difference (iv (pos 1) 0 (pos 2) 0) (iv (pos 3) 1 (pos 2) 0)) ≡ Some (iv (negsuc 0) 0 (pos 1) 1)) ×
    (fitting (interval_product_fits (iv (pos 1) 0 (pos 2) 0) (iv (pos 3) 1 (pos 2) 0))
    (interval_product (iv (pos 1) 0 (pos 2) 0) (iv (pos 3) 1 (pos 2) 0)) ≡ Some (iv (pos 3) 1 (pos 4) 0)) ×
    (is_inside (iv (pos 1) 0 (pos 2) 0) (iv (pos 3) 1 (pos 2) 0) ≡ false)
unfolding interval_sum interval_difference interval_product interval_sum_fits interval_difference_fits
    interval_product_fits is_inside dyadic_sum dyadic_difference dyadic_product sum_fits difference_fits product_fits
    fits_128 least greatest dyadic_value over is_at_most
operation_10 = (refl, refl, refl, refl)

operation_11 : (fitting (interval_sum_fits (iv (pos 2) 1 (pos 1) 0) (iv (pos 1) 0 (pos 1) 0))
    (interval_sum (iv (pos 2) 1 (pos 1) 0) (iv (pos 1) 0 (pos 1) 0)) ≡ Some (iv (pos 4) 1 (pos 2) 0)) ×
    (fitting (interval_difference_fits (iv (pos 2) 1 (pos 1) 0) (iv (pos 1) 0 (pos 1) 0))
    (interval_difference (iv (pos 2) 1 (pos 1) 0) (iv (pos 1) 0 (pos 1) 0)) ≡ Some (iv (pos 0) 0 (pos 0) 0)) ×
    (fitting (interval_product_fits (iv (pos 2) 1 (pos 1) 0) (iv (pos 1) 0 (pos 1) 0))
    (interval_product (iv (pos 2) 1 (pos 1) 0) (iv (pos 1) 0 (pos 1) 0)) ≡ Some (iv (pos 2) 1 (pos 2) 1)) ×
    (is_inside (iv (pos 2) 1 (pos 1) 0) (iv (pos 1) 0 (pos 1) 0) ≡ true)
unfolding interval_sum interval_difference interval_product interval_sum_fits interval_difference_fits
    interval_product_fits is_inside dyadic_sum dyadic_difference dyadic_product sum_fits difference_fits product_fits
    fits_128 least greatest dyadic_value over is_at_most
operation_11 = (refl, refl, refl, refl)

operation_12 : (fitting (interval_sum_fits (iv (pos 1) 0 (pos 2) 1) (iv (pos 1) 0 (pos 2) 1))
    (interval_sum (iv (pos 1) 0 (pos 2) 1) (iv (pos 1) 0 (pos 2) 1)) ≡ Some (iv (pos 2) 0 (pos 4) 1)) ×
    (fitting (interval_difference_fits (iv (pos 1) 0 (pos 2) 1) (iv (pos 1) 0 (pos 2) 1))
    (interval_difference (iv (pos 1) 0 (pos 2) 1) (iv (pos 1) 0 (pos 2) 1)) ≡ Some (iv (pos 0) 0 (pos 0) 0)) ×
    (fitting (interval_product_fits (iv (pos 1) 0 (pos 2) 1) (iv (pos 1) 0 (pos 2) 1))
    (interval_product (iv (pos 1) 0 (pos 2) 1) (iv (pos 1) 0 (pos 2) 1)) ≡ Some (iv (pos 1) 0 (pos 1) 0)) ×
    (is_inside (iv (pos 1) 0 (pos 2) 1) (iv (pos 1) 0 (pos 2) 1) ≡ true)
unfolding interval_sum interval_difference interval_product interval_sum_fits interval_difference_fits
    interval_product_fits is_inside dyadic_sum dyadic_difference dyadic_product sum_fits difference_fits product_fits
    fits_128 least greatest dyadic_value over is_at_most
operation_12 = (refl, refl, refl, refl)

operation_13 : (fitting (interval_sum_fits (iv (negsuc 1) 1 (pos 1) 0) (iv (negsuc 0) 0 (pos 2) 1))
    (interval_sum (iv (negsuc 1) 1 (pos 1) 0) (iv (negsuc 0) 0 (pos 2) 1)) ≡ Some (iv (negsuc 3) 1 (pos 4) 1)) ×
    (fitting (interval_difference_fits (iv (negsuc 1) 1 (pos 1) 0) (iv (negsuc 0) 0 (pos 2) 1))
    (interval_difference (iv (negsuc 1) 1 (pos 1) 0) (iv (negsuc 0) 0 (pos 2) 1)) ≡ Some (iv (negsuc 3) 1 (pos 2) 0)) ×
    (fitting (interval_product_fits (iv (negsuc 1) 1 (pos 1) 0) (iv (negsuc 0) 0 (pos 2) 1))
    (interval_product (iv (negsuc 1) 1 (pos 1) 0) (iv (negsuc 0) 0 (pos 2) 1)) ≡ Some (iv (negsuc 3) 2 (pos 2) 1)) ×
    (is_inside (iv (negsuc 1) 1 (pos 1) 0) (iv (negsuc 0) 0 (pos 2) 1) ≡ true)
unfolding interval_sum interval_difference interval_product interval_sum_fits interval_difference_fits
    interval_product_fits is_inside dyadic_sum dyadic_difference dyadic_product sum_fits difference_fits product_fits
    fits_128 least greatest dyadic_value over is_at_most
operation_13 = (refl, refl, refl, refl)

operation_14 : (fitting (interval_sum_fits (iv (negsuc 0) 0 (pos 1) 0) (iv (negsuc 0) 0 (pos 1) 0))
    (interval_sum (iv (negsuc 0) 0 (pos 1) 0) (iv (negsuc 0) 0 (pos 1) 0)) ≡ Some (iv (negsuc 1) 0 (pos 2) 0)) ×
    (fitting (interval_difference_fits (iv (negsuc 0) 0 (pos 1) 0) (iv (negsuc 0) 0 (pos 1) 0))
    (interval_difference (iv (negsuc 0) 0 (pos 1) 0) (iv (negsuc 0) 0 (pos 1) 0)) ≡ Some (iv (negsuc 1) 0 (pos 2) 0)) ×
    (fitting (interval_product_fits (iv (negsuc 0) 0 (pos 1) 0) (iv (negsuc 0) 0 (pos 1) 0))
    (interval_product (iv (negsuc 0) 0 (pos 1) 0) (iv (negsuc 0) 0 (pos 1) 0)) ≡ Some (iv (negsuc 0) 0 (pos 1) 0)) ×
    (is_inside (iv (negsuc 0) 0 (pos 1) 0) (iv (negsuc 0) 0 (pos 1) 0) ≡ true)
unfolding interval_sum interval_difference interval_product interval_sum_fits interval_difference_fits
    interval_product_fits is_inside dyadic_sum dyadic_difference dyadic_product sum_fits difference_fits product_fits
    fits_128 least greatest dyadic_value over is_at_most
operation_14 = (refl, refl, refl, refl)

operation_15 : (fitting (interval_sum_fits (iv (pos 0) 0 (pos 0) 0) (iv (negsuc 6) 3 (pos 7) 3))
    (interval_sum (iv (pos 0) 0 (pos 0) 0) (iv (negsuc 6) 3 (pos 7) 3)) ≡ Some (iv (negsuc 6) 3 (pos 7) 3)) ×
    (fitting (interval_difference_fits (iv (pos 0) 0 (pos 0) 0) (iv (negsuc 6) 3 (pos 7) 3))
    (interval_difference (iv (pos 0) 0 (pos 0) 0) (iv (negsuc 6) 3 (pos 7) 3)) ≡ Some (iv (negsuc 6) 3 (pos 7) 3)) ×
    (fitting (interval_product_fits (iv (pos 0) 0 (pos 0) 0) (iv (negsuc 6) 3 (pos 7) 3))
    (interval_product (iv (pos 0) 0 (pos 0) 0) (iv (negsuc 6) 3 (pos 7) 3)) ≡ Some (iv (pos 0) 0 (pos 0) 0)) ×
    (is_inside (iv (pos 0) 0 (pos 0) 0) (iv (negsuc 6) 3 (pos 7) 3) ≡ true)
unfolding interval_sum interval_difference interval_product interval_sum_fits interval_difference_fits
    interval_product_fits is_inside dyadic_sum dyadic_difference dyadic_product sum_fits difference_fits product_fits
    fits_128 least greatest dyadic_value over is_at_most
operation_15 = (refl, refl, refl, refl)

operation_16 : (fitting (interval_sum_fits (iv (pos 0) 0 (pos 1) 0) (iv (negsuc 0) 5 (pos 0) 0))
    (interval_sum (iv (pos 0) 0 (pos 1) 0) (iv (negsuc 0) 5 (pos 0) 0)) ≡ Some (iv (negsuc 0) 5 (pos 1) 0)) ×
    (fitting (interval_difference_fits (iv (pos 0) 0 (pos 1) 0) (iv (negsuc 0) 5 (pos 0) 0))
    (interval_difference (iv (pos 0) 0 (pos 1) 0) (iv (negsuc 0) 5 (pos 0) 0)) ≡ Some (iv (pos 0) 0 (pos 33) 5)) ×
    (fitting (interval_product_fits (iv (pos 0) 0 (pos 1) 0) (iv (negsuc 0) 5 (pos 0) 0))
    (interval_product (iv (pos 0) 0 (pos 1) 0) (iv (negsuc 0) 5 (pos 0) 0)) ≡ Some (iv (negsuc 0) 5 (pos 0) 0)) ×
    (is_inside (iv (pos 0) 0 (pos 1) 0) (iv (negsuc 0) 5 (pos 0) 0) ≡ false)
unfolding interval_sum interval_difference interval_product interval_sum_fits interval_difference_fits
    interval_product_fits is_inside dyadic_sum dyadic_difference dyadic_product sum_fits difference_fits product_fits
    fits_128 least greatest dyadic_value over is_at_most
operation_16 = (refl, refl, refl, refl)

operation_17 : (fitting (interval_sum_fits (iv (pos 2) 0 (pos 1) 0) (iv (pos 5) 0 (pos 3) 0))
    (interval_sum (iv (pos 2) 0 (pos 1) 0) (iv (pos 5) 0 (pos 3) 0)) ≡ Some (iv (pos 7) 0 (pos 4) 0)) ×
    (fitting (interval_difference_fits (iv (pos 2) 0 (pos 1) 0) (iv (pos 5) 0 (pos 3) 0))
    (interval_difference (iv (pos 2) 0 (pos 1) 0) (iv (pos 5) 0 (pos 3) 0)) ≡ Some (iv (negsuc 0) 0 (negsuc 3) 0)) ×
    (fitting (interval_product_fits (iv (pos 2) 0 (pos 1) 0) (iv (pos 5) 0 (pos 3) 0))
    (interval_product (iv (pos 2) 0 (pos 1) 0) (iv (pos 5) 0 (pos 3) 0)) ≡ Some (iv (pos 3) 0 (pos 10) 0)) ×
    (is_inside (iv (pos 2) 0 (pos 1) 0) (iv (pos 5) 0 (pos 3) 0) ≡ false)
unfolding interval_sum interval_difference interval_product interval_sum_fits interval_difference_fits
    interval_product_fits is_inside dyadic_sum dyadic_difference dyadic_product sum_fits difference_fits product_fits
    fits_128 least greatest dyadic_value over is_at_most
operation_17 = (refl, refl, refl, refl)

operation_18 : (fitting (interval_sum_fits (iv (pos 2) 0 (pos 1) 0) (iv (pos 1) 0 (pos 2) 0))
    (interval_sum (iv (pos 2) 0 (pos 1) 0) (iv (pos 1) 0 (pos 2) 0)) ≡ Some (iv (pos 3) 0 (pos 3) 0)) ×
    (fitting (interval_difference_fits (iv (pos 2) 0 (pos 1) 0) (iv (pos 1) 0 (pos 2) 0))
    (interval_difference (iv (pos 2) 0 (pos 1) 0) (iv (pos 1) 0 (pos 2) 0)) ≡ Some (iv (pos 0) 0 (pos 0) 0)) ×
    (fitting (interval_product_fits (iv (pos 2) 0 (pos 1) 0) (iv (pos 1) 0 (pos 2) 0))
    (interval_product (iv (pos 2) 0 (pos 1) 0) (iv (pos 1) 0 (pos 2) 0)) ≡ Some (iv (pos 1) 0 (pos 4) 0)) ×
    (is_inside (iv (pos 2) 0 (pos 1) 0) (iv (pos 1) 0 (pos 2) 0) ≡ true)
unfolding interval_sum interval_difference interval_product interval_sum_fits interval_difference_fits
    interval_product_fits is_inside dyadic_sum dyadic_difference dyadic_product sum_fits difference_fits product_fits
    fits_128 least greatest dyadic_value over is_at_most
operation_18 = (refl, refl, refl, refl)

operation_19 : (fitting (interval_sum_fits (iv (pos 1) 0 (pos 2) 0) (iv (pos 2) 0 (pos 1) 0))
    (interval_sum (iv (pos 1) 0 (pos 2) 0) (iv (pos 2) 0 (pos 1) 0)) ≡ Some (iv (pos 3) 0 (pos 3) 0)) ×
    (fitting (interval_difference_fits (iv (pos 1) 0 (pos 2) 0) (iv (pos 2) 0 (pos 1) 0))
    (interval_difference (iv (pos 1) 0 (pos 2) 0) (iv (pos 2) 0 (pos 1) 0)) ≡ Some (iv (pos 0) 0 (pos 0) 0)) ×
    (fitting (interval_product_fits (iv (pos 1) 0 (pos 2) 0) (iv (pos 2) 0 (pos 1) 0))
    (interval_product (iv (pos 1) 0 (pos 2) 0) (iv (pos 2) 0 (pos 1) 0)) ≡ Some (iv (pos 1) 0 (pos 4) 0)) ×
    (is_inside (iv (pos 1) 0 (pos 2) 0) (iv (pos 2) 0 (pos 1) 0) ≡ false)
unfolding interval_sum interval_difference interval_product interval_sum_fits interval_difference_fits
    interval_product_fits is_inside dyadic_sum dyadic_difference dyadic_product sum_fits difference_fits product_fits
    fits_128 least greatest dyadic_value over is_at_most
operation_19 = (refl, refl, refl, refl)

operation_20 : (fitting (interval_sum_fits (iv (negsuc 0) 96 (pos 1) 96) (iv (negsuc 2) 96 (pos 3) 96))
    (interval_sum (iv (negsuc 0) 96 (pos 1) 96) (iv (negsuc 2) 96 (pos 3) 96)) ≡ Some (iv (negsuc 3) 96 (pos 4) 96)) ×
    (fitting (interval_difference_fits (iv (negsuc 0) 96 (pos 1) 96) (iv (negsuc 2) 96 (pos 3) 96))
    (interval_difference (iv (negsuc 0) 96 (pos 1) 96) (iv (negsuc 2) 96 (pos 3) 96))
    ≡ Some (iv (negsuc 3) 96 (pos 4) 96)) ×
    (fitting (interval_product_fits (iv (negsuc 0) 96 (pos 1) 96) (iv (negsuc 2) 96 (pos 3) 96))
    (interval_product (iv (negsuc 0) 96 (pos 1) 96) (iv (negsuc 2) 96 (pos 3) 96))
    ≡ Some (iv (negsuc 2) 192 (pos 3) 192)) ×
    (is_inside (iv (negsuc 0) 96 (pos 1) 96) (iv (negsuc 2) 96 (pos 3) 96) ≡ true)
unfolding interval_sum interval_difference interval_product interval_sum_fits interval_difference_fits
    interval_product_fits is_inside dyadic_sum dyadic_difference dyadic_product sum_fits difference_fits product_fits
    fits_128 least greatest dyadic_value over is_at_most
operation_20 = (refl, refl, refl, refl)

operation_21 : (fitting
    (interval_sum_fits (iv (negsuc 0) 96 (pos 1) 1000) (iv (negsuc 1073741823) 0 (pos 1073741824) 0))
    (interval_sum (iv (negsuc 0) 96 (pos 1) 1000) (iv (negsuc 1073741823) 0 (pos 1073741824) 0)) ≡ None) ×
    (fitting (interval_difference_fits (iv (negsuc 0) 96 (pos 1) 1000) (iv (negsuc 1073741823) 0 (pos 1073741824) 0))
    (interval_difference (iv (negsuc 0) 96 (pos 1) 1000) (iv (negsuc 1073741823) 0 (pos 1073741824) 0)) ≡ None) ×
    (fitting (interval_product_fits (iv (negsuc 0) 96 (pos 1) 1000) (iv (negsuc 1073741823) 0 (pos 1073741824) 0))
    (interval_product (iv (negsuc 0) 96 (pos 1) 1000) (iv (negsuc 1073741823) 0 (pos 1073741824) 0))
    ≡ Some (iv (negsuc 1073741823) 96 (pos 1073741824) 96)) ×
    (is_inside (iv (negsuc 0) 96 (pos 1) 1000) (iv (negsuc 1073741823) 0 (pos 1073741824) 0) ≡ true)
unfolding interval_sum interval_difference interval_product interval_sum_fits interval_difference_fits
    interval_product_fits is_inside dyadic_sum dyadic_difference dyadic_product sum_fits difference_fits product_fits
    fits_128 least greatest dyadic_value over is_at_most
operation_21 = (refl, refl, refl, refl)

operation_22 : (fitting (interval_sum_fits (iv (negsuc 0) 96 (pos 1) 96) (iv (negsuc 2147483647) 0 (pos 2147483647) 0))
    (interval_sum (iv (negsuc 0) 96 (pos 1) 96) (iv (negsuc 2147483647) 0 (pos 2147483647) 0)) ≡ None) ×
    (fitting (interval_difference_fits (iv (negsuc 0) 96 (pos 1) 96) (iv (negsuc 2147483647) 0 (pos 2147483647) 0))
    (interval_difference (iv (negsuc 0) 96 (pos 1) 96) (iv (negsuc 2147483647) 0 (pos 2147483647) 0)) ≡ None) ×
    (fitting (interval_product_fits (iv (negsuc 0) 96 (pos 1) 96) (iv (negsuc 2147483647) 0 (pos 2147483647) 0))
    (interval_product (iv (negsuc 0) 96 (pos 1) 96) (iv (negsuc 2147483647) 0 (pos 2147483647) 0))
    ≡ Some (iv (negsuc 2147483647) 96 (pos 2147483648) 96)) ×
    (is_inside (iv (negsuc 0) 96 (pos 1) 96) (iv (negsuc 2147483647) 0 (pos 2147483647) 0) ≡ true)
unfolding interval_sum interval_difference interval_product interval_sum_fits interval_difference_fits
    interval_product_fits is_inside dyadic_sum dyadic_difference dyadic_product sum_fits difference_fits product_fits
    fits_128 least greatest dyadic_value over is_at_most
operation_22 = (refl, refl, refl, refl)

operation_23 : (fitting (interval_sum_fits (iv (negsuc 0) 96 (pos 1) 96) (iv (negsuc 2147483647) 0 (pos 2147483648) 0))
    (interval_sum (iv (negsuc 0) 96 (pos 1) 96) (iv (negsuc 2147483647) 0 (pos 2147483648) 0)) ≡ None) ×
    (fitting (interval_difference_fits (iv (negsuc 0) 96 (pos 1) 96) (iv (negsuc 2147483647) 0 (pos 2147483648) 0))
    (interval_difference (iv (negsuc 0) 96 (pos 1) 96) (iv (negsuc 2147483647) 0 (pos 2147483648) 0)) ≡ None) ×
    (fitting (interval_product_fits (iv (negsuc 0) 96 (pos 1) 96) (iv (negsuc 2147483647) 0 (pos 2147483648) 0))
    (interval_product (iv (negsuc 0) 96 (pos 1) 96) (iv (negsuc 2147483647) 0 (pos 2147483648) 0))
    ≡ Some (iv (negsuc 2147483647) 96 (pos 2147483648) 96)) ×
    (is_inside (iv (negsuc 0) 96 (pos 1) 96) (iv (negsuc 2147483647) 0 (pos 2147483648) 0) ≡ true)
unfolding interval_sum interval_difference interval_product interval_sum_fits interval_difference_fits
    interval_product_fits is_inside dyadic_sum dyadic_difference dyadic_product sum_fits difference_fits product_fits
    fits_128 least greatest dyadic_value over is_at_most
operation_23 = (refl, refl, refl, refl)

operation_24 : (fitting
    (interval_sum_fits (iv (pos 170141183460469231731687303715884105727) 0
    (pos 170141183460469231731687303715884105727) 0) (iv (pos 1) 0 (pos 1) 0)) (interval_sum (iv
    (pos 170141183460469231731687303715884105727) 0 (pos 170141183460469231731687303715884105727) 0) (iv (pos 1) 0
    (pos 1) 0)) ≡ None) × (fitting (interval_difference_fits (iv (pos 170141183460469231731687303715884105727) 0
    (pos 170141183460469231731687303715884105727) 0) (iv (pos 1) 0 (pos 1) 0)) (interval_difference (iv
    (pos 170141183460469231731687303715884105727) 0 (pos 170141183460469231731687303715884105727) 0) (iv (pos 1) 0
    (pos 1) 0)) ≡ Some (iv (pos 170141183460469231731687303715884105726) 0
    (pos 170141183460469231731687303715884105726) 0)) ×
    (fitting (interval_product_fits
    (iv (pos 170141183460469231731687303715884105727) 0 (pos 170141183460469231731687303715884105727) 0)
    (iv (pos 1) 0 (pos 1) 0)) (interval_product
    (iv (pos 170141183460469231731687303715884105727) 0 (pos 170141183460469231731687303715884105727) 0)
    (iv (pos 1) 0 (pos 1) 0)) ≡ Some (iv (pos 170141183460469231731687303715884105727) 0
    (pos 170141183460469231731687303715884105727) 0)) ×
    (is_inside (iv (pos 170141183460469231731687303715884105727) 0 (pos 170141183460469231731687303715884105727) 0)
    (iv (pos 1) 0 (pos 1) 0) ≡ false)
unfolding interval_sum interval_difference interval_product interval_sum_fits interval_difference_fits
    interval_product_fits is_inside dyadic_sum dyadic_difference dyadic_product sum_fits difference_fits product_fits
    fits_128 least greatest dyadic_value over is_at_most
operation_24 = (refl, refl, refl, refl)

operation_25 : (fitting
    (interval_sum_fits (iv (pos 0) 0 (pos 170141183460469231731687303715884105727) 0) (iv (negsuc 0) 0 (pos 0) 0))
    (interval_sum (iv (pos 0) 0 (pos 170141183460469231731687303715884105727) 0) (iv (negsuc 0) 0 (pos 0) 0))
    ≡ Some (iv (negsuc 0) 0 (pos 170141183460469231731687303715884105727) 0)) ×
    (fitting (interval_difference_fits (iv (pos 0) 0 (pos 170141183460469231731687303715884105727) 0)
    (iv (negsuc 0) 0 (pos 0) 0)) (interval_difference (iv (pos 0) 0 (pos 170141183460469231731687303715884105727) 0)
    (iv (negsuc 0) 0 (pos 0) 0)) ≡ None) ×
    (fitting (interval_product_fits (iv (pos 0) 0 (pos 170141183460469231731687303715884105727) 0)
    (iv (negsuc 0) 0 (pos 0) 0)) (interval_product (iv (pos 0) 0 (pos 170141183460469231731687303715884105727) 0)
    (iv (negsuc 0) 0 (pos 0) 0)) ≡ Some (iv (negsuc 170141183460469231731687303715884105726) 0 (pos 0) 0)) ×
    (is_inside (iv (pos 0) 0 (pos 170141183460469231731687303715884105727) 0) (iv (negsuc 0) 0 (pos 0) 0) ≡ false)
unfolding interval_sum interval_difference interval_product interval_sum_fits interval_difference_fits
    interval_product_fits is_inside dyadic_sum dyadic_difference dyadic_product sum_fits difference_fits product_fits
    fits_128 least greatest dyadic_value over is_at_most
operation_25 = (refl, refl, refl, refl)

operation_26 : (fitting
    (interval_sum_fits (iv (pos 0) 0 (pos 170141183460469231731687303715884105727) 0) (iv (pos 0) 0 (pos 1) 0))
    (interval_sum (iv (pos 0) 0 (pos 170141183460469231731687303715884105727) 0) (iv (pos 0) 0 (pos 1) 0)) ≡ None) ×
    (fitting (interval_difference_fits (iv (pos 0) 0 (pos 170141183460469231731687303715884105727) 0)
    (iv (pos 0) 0 (pos 1) 0)) (interval_difference (iv (pos 0) 0 (pos 170141183460469231731687303715884105727) 0)
    (iv (pos 0) 0 (pos 1) 0)) ≡ Some (iv (negsuc 0) 0 (pos 170141183460469231731687303715884105727) 0)) ×
    (fitting (interval_product_fits (iv (pos 0) 0 (pos 170141183460469231731687303715884105727) 0)
    (iv (pos 0) 0 (pos 1) 0)) (interval_product (iv (pos 0) 0 (pos 170141183460469231731687303715884105727) 0)
    (iv (pos 0) 0 (pos 1) 0)) ≡ Some (iv (pos 0) 0 (pos 170141183460469231731687303715884105727) 0)) ×
    (is_inside (iv (pos 0) 0 (pos 170141183460469231731687303715884105727) 0) (iv (pos 0) 0 (pos 1) 0) ≡ false)
unfolding interval_sum interval_difference interval_product interval_sum_fits interval_difference_fits
    interval_product_fits is_inside dyadic_sum dyadic_difference dyadic_product sum_fits difference_fits product_fits
    fits_128 least greatest dyadic_value over is_at_most
operation_26 = (refl, refl, refl, refl)

operation_27 : (fitting
    (interval_sum_fits (iv (negsuc 170141183460469231731687303715884105727) 0
    (pos 170141183460469231731687303715884105727) 0) (iv (pos 1) 0 (pos 1) 0)) (interval_sum (iv
    (negsuc 170141183460469231731687303715884105727) 0 (pos 170141183460469231731687303715884105727) 0) (iv (pos 1) 0
    (pos 1) 0)) ≡ None) × (fitting (interval_difference_fits (iv (negsuc 170141183460469231731687303715884105727) 0
    (pos 170141183460469231731687303715884105727) 0) (iv (pos 1) 0 (pos 1) 0)) (interval_difference (iv
    (negsuc 170141183460469231731687303715884105727) 0 (pos 170141183460469231731687303715884105727) 0) (iv (pos 1) 0
    (pos 1) 0)) ≡ None) × (fitting (interval_product_fits (iv (negsuc 170141183460469231731687303715884105727) 0
    (pos 170141183460469231731687303715884105727) 0) (iv (pos 1) 0 (pos 1) 0)) (interval_product (iv
    (negsuc 170141183460469231731687303715884105727) 0 (pos 170141183460469231731687303715884105727) 0) (iv (pos 1) 0
    (pos 1) 0)) ≡ Some (iv (negsuc 170141183460469231731687303715884105727) 0
    (pos 170141183460469231731687303715884105727) 0)) ×
    (is_inside (iv (negsuc 170141183460469231731687303715884105727) 0 (pos 170141183460469231731687303715884105727) 0)
    (iv (pos 1) 0 (pos 1) 0) ≡ false)
unfolding interval_sum interval_difference interval_product interval_sum_fits interval_difference_fits
    interval_product_fits is_inside dyadic_sum dyadic_difference dyadic_product sum_fits difference_fits product_fits
    fits_128 least greatest dyadic_value over is_at_most
operation_27 = (refl, refl, refl, refl)

operation_28 : (fitting
    (interval_sum_fits (iv (negsuc 170141183460469231731687303715884105727) 0
    (pos 170141183460469231731687303715884105727) 0) (iv (negsuc 0) 0 (pos 1) 0)) (interval_sum (iv
    (negsuc 170141183460469231731687303715884105727) 0 (pos 170141183460469231731687303715884105727) 0) (iv (negsuc 0) 0
    (pos 1) 0)) ≡ None) × (fitting (interval_difference_fits (iv (negsuc 170141183460469231731687303715884105727) 0
    (pos 170141183460469231731687303715884105727) 0) (iv (negsuc 0) 0 (pos 1) 0)) (interval_difference (iv
    (negsuc 170141183460469231731687303715884105727) 0 (pos 170141183460469231731687303715884105727) 0) (iv (negsuc 0) 0
    (pos 1) 0)) ≡ None) × (fitting (interval_product_fits (iv (negsuc 170141183460469231731687303715884105727) 0
    (pos 170141183460469231731687303715884105727) 0) (iv (negsuc 0) 0 (pos 1) 0)) (interval_product (iv
    (negsuc 170141183460469231731687303715884105727) 0 (pos 170141183460469231731687303715884105727) 0) (iv (negsuc 0) 0
    (pos 1) 0)) ≡ None) × (is_inside (iv (negsuc 170141183460469231731687303715884105727) 0
    (pos 170141183460469231731687303715884105727) 0) (iv (negsuc 0) 0 (pos 1) 0) ≡ false)
unfolding interval_sum interval_difference interval_product interval_sum_fits interval_difference_fits
    interval_product_fits is_inside dyadic_sum dyadic_difference dyadic_product sum_fits difference_fits product_fits
    fits_128 least greatest dyadic_value over is_at_most
operation_28 = (refl, refl, refl, refl)

operation_29 : (fitting
    (interval_sum_fits (iv (negsuc 170141183460469231731687303715884105727) 0 (pos 0) 0) (iv (pos 0) 0 (pos 1) 0))
    (interval_sum (iv (negsuc 170141183460469231731687303715884105727) 0 (pos 0) 0) (iv (pos 0) 0 (pos 1) 0))
    ≡ Some (iv (negsuc 170141183460469231731687303715884105727) 0 (pos 1) 0)) ×
    (fitting (interval_difference_fits (iv (negsuc 170141183460469231731687303715884105727) 0 (pos 0) 0)
    (iv (pos 0) 0 (pos 1) 0)) (interval_difference (iv (negsuc 170141183460469231731687303715884105727) 0 (pos 0) 0)
    (iv (pos 0) 0 (pos 1) 0)) ≡ None) ×
    (fitting (interval_product_fits (iv (negsuc 170141183460469231731687303715884105727) 0 (pos 0) 0)
    (iv (pos 0) 0 (pos 1) 0)) (interval_product (iv (negsuc 170141183460469231731687303715884105727) 0 (pos 0) 0)
    (iv (pos 0) 0 (pos 1) 0)) ≡ Some (iv (negsuc 170141183460469231731687303715884105727) 0 (pos 0) 0)) ×
    (is_inside (iv (negsuc 170141183460469231731687303715884105727) 0 (pos 0) 0) (iv (pos 0) 0 (pos 1) 0) ≡ false)
unfolding interval_sum interval_difference interval_product interval_sum_fits interval_difference_fits
    interval_product_fits is_inside dyadic_sum dyadic_difference dyadic_product sum_fits difference_fits product_fits
    fits_128 least greatest dyadic_value over is_at_most
operation_29 = (refl, refl, refl, refl)

operation_30 : (fitting
    (interval_sum_fits (iv (negsuc 170141183460469231731687303715884105727) 0
    (pos 170141183460469231731687303715884105727) 0) (iv (negsuc 170141183460469231731687303715884105727) 0
    (pos 170141183460469231731687303715884105727) 0)) (interval_sum (iv
    (negsuc 170141183460469231731687303715884105727) 0 (pos 170141183460469231731687303715884105727) 0) (iv
    (negsuc 170141183460469231731687303715884105727) 0 (pos 170141183460469231731687303715884105727) 0)) ≡ None) ×
    (fitting (interval_difference_fits
    (iv (negsuc 170141183460469231731687303715884105727) 0 (pos 170141183460469231731687303715884105727) 0)
    (iv (negsuc 170141183460469231731687303715884105727) 0 (pos 170141183460469231731687303715884105727) 0))
    (interval_difference (iv (negsuc 170141183460469231731687303715884105727) 0
    (pos 170141183460469231731687303715884105727) 0) (iv (negsuc 170141183460469231731687303715884105727) 0
    (pos 170141183460469231731687303715884105727) 0)) ≡ None) ×
    (fitting (interval_product_fits
    (iv (negsuc 170141183460469231731687303715884105727) 0 (pos 170141183460469231731687303715884105727) 0)
    (iv (negsuc 170141183460469231731687303715884105727) 0 (pos 170141183460469231731687303715884105727) 0))
    (interval_product (iv (negsuc 170141183460469231731687303715884105727) 0
    (pos 170141183460469231731687303715884105727) 0) (iv (negsuc 170141183460469231731687303715884105727) 0
    (pos 170141183460469231731687303715884105727) 0)) ≡ None) ×
    (is_inside (iv (negsuc 170141183460469231731687303715884105727) 0 (pos 170141183460469231731687303715884105727) 0)
    (iv (negsuc 170141183460469231731687303715884105727) 0 (pos 170141183460469231731687303715884105727) 0) ≡ true)
unfolding interval_sum interval_difference interval_product interval_sum_fits interval_difference_fits
    interval_product_fits is_inside dyadic_sum dyadic_difference dyadic_product sum_fits difference_fits product_fits
    fits_128 least greatest dyadic_value over is_at_most
operation_30 = (refl, refl, refl, refl)

operation_31 : (fitting
    (interval_sum_fits (iv (negsuc 9223372036854775807) 10 (pos 18446744073709551616) 10)
    (iv (negsuc 9223372036854775807) 20 (pos 4611686018427387904) 20)) (interval_sum
    (iv (negsuc 9223372036854775807) 10 (pos 18446744073709551616) 10)
    (iv (negsuc 9223372036854775807) 20 (pos 4611686018427387904) 20))
    ≡ Some (iv (negsuc 9453956337776145203199) 20 (pos 18894077617497008242688) 20)) ×
    (fitting (interval_difference_fits (iv (negsuc 9223372036854775807) 10 (pos 18446744073709551616) 10)
    (iv (negsuc 9223372036854775807) 20 (pos 4611686018427387904) 20)) (interval_difference
    (iv (negsuc 9223372036854775807) 10 (pos 18446744073709551616) 10)
    (iv (negsuc 9223372036854775807) 20 (pos 4611686018427387904) 20))
    ≡ Some (iv (negsuc 9449344651757717815295) 20 (pos 18898689303515435630592) 20)) ×
    (fitting (interval_product_fits (iv (negsuc 9223372036854775807) 10 (pos 18446744073709551616) 10)
    (iv (negsuc 9223372036854775807) 20 (pos 4611686018427387904) 20)) (interval_product
    (iv (negsuc 9223372036854775807) 10 (pos 18446744073709551616) 10)
    (iv (negsuc 9223372036854775807) 20 (pos 4611686018427387904) 20))
    ≡ Some (iv (negsuc 170141183460469231731687303715884105727) 30 (pos 85070591730234615865843651857942052864) 30)) ×
    (is_inside (iv (negsuc 9223372036854775807) 10 (pos 18446744073709551616) 10)
    (iv (negsuc 9223372036854775807) 20 (pos 4611686018427387904) 20) ≡ false)
unfolding interval_sum interval_difference interval_product interval_sum_fits interval_difference_fits
    interval_product_fits is_inside dyadic_sum dyadic_difference dyadic_product sum_fits difference_fits product_fits
    fits_128 least greatest dyadic_value over is_at_most
operation_31 = (refl, refl, refl, refl)

operation_32 : (fitting
    (interval_sum_fits (iv (negsuc 9223372036854775807) 10 (pos 18446744073709551616) 10)
    (iv (negsuc 9223372036854775807) 20 (pos 9223372036854775808) 20)) (interval_sum
    (iv (negsuc 9223372036854775807) 10 (pos 18446744073709551616) 10)
    (iv (negsuc 9223372036854775807) 20 (pos 9223372036854775808) 20))
    ≡ Some (iv (negsuc 9453956337776145203199) 20 (pos 18898689303515435630592) 20)) ×
    (fitting (interval_difference_fits (iv (negsuc 9223372036854775807) 10 (pos 18446744073709551616) 10)
    (iv (negsuc 9223372036854775807) 20 (pos 9223372036854775808) 20)) (interval_difference
    (iv (negsuc 9223372036854775807) 10 (pos 18446744073709551616) 10)
    (iv (negsuc 9223372036854775807) 20 (pos 9223372036854775808) 20))
    ≡ Some (iv (negsuc 9453956337776145203199) 20 (pos 18898689303515435630592) 20)) ×
    (fitting (interval_product_fits (iv (negsuc 9223372036854775807) 10 (pos 18446744073709551616) 10)
    (iv (negsuc 9223372036854775807) 20 (pos 9223372036854775808) 20)) (interval_product
    (iv (negsuc 9223372036854775807) 10 (pos 18446744073709551616) 10)
    (iv (negsuc 9223372036854775807) 20 (pos 9223372036854775808) 20)) ≡ None) ×
    (is_inside (iv (negsuc 9223372036854775807) 10 (pos 18446744073709551616) 10)
    (iv (negsuc 9223372036854775807) 20 (pos 9223372036854775808) 20) ≡ false)
unfolding interval_sum interval_difference interval_product interval_sum_fits interval_difference_fits
    interval_product_fits is_inside dyadic_sum dyadic_difference dyadic_product sum_fits difference_fits product_fits
    fits_128 least greatest dyadic_value over is_at_most
operation_32 = (refl, refl, refl, refl)

operation_33 : (fitting
    (interval_sum_fits (iv (negsuc 271828182845904523535) 70 (pos 314159265358979323846) 67)
    (iv (negsuc 14142135623730950487) 64 (pos 17320508075688772935) 61)) (interval_sum
    (iv (negsuc 271828182845904523535) 70 (pos 314159265358979323846) 67)
    (iv (negsuc 14142135623730950487) 64 (pos 17320508075688772935) 61))
    ≡ Some (iv (negsuc 1176924862764685354767) 70 (pos 1422671782203060791686) 67)) ×
    (fitting (interval_difference_fits (iv (negsuc 271828182845904523535) 70 (pos 314159265358979323846) 67)
    (iv (negsuc 14142135623730950487) 64 (pos 17320508075688772935) 61)) (interval_difference
    (iv (negsuc 271828182845904523535) 70 (pos 314159265358979323846) 67)
    (iv (negsuc 14142135623730950487) 64 (pos 17320508075688772935) 61))
    ≡ Some (iv (negsuc 9139928317598556266255) 70 (pos 427296350348826927750) 67)) ×
    (fitting (interval_product_fits (iv (negsuc 271828182845904523535) 70 (pos 314159265358979323846) 67)
    (iv (negsuc 14142135623730950487) 64 (pos 17320508075688772935) 61)) (interval_product
    (iv (negsuc 271828182845904523535) 70 (pos 314159265358979323846) 67)
    (iv (negsuc 14142135623730950487) 64 (pos 17320508075688772935) 61)) ≡ None) ×
    (is_inside (iv (negsuc 271828182845904523535) 70 (pos 314159265358979323846) 67)
    (iv (negsuc 14142135623730950487) 64 (pos 17320508075688772935) 61) ≡ true)
unfolding interval_sum interval_difference interval_product interval_sum_fits interval_difference_fits
    interval_product_fits is_inside dyadic_sum dyadic_difference dyadic_product sum_fits difference_fits product_fits
    fits_128 least greatest dyadic_value over is_at_most
operation_33 = (refl, refl, refl, refl)

-- ---- outward to so many places

outward_1 : outward_to (iv (pos 1) 0 (pos 2) 0) 0 ≡ iv (pos 1) 0 (pos 2) 0
unfolding outward_to rounded_down rounded_up
outward_1 = refl

outward_2 : outward_to (iv (pos 5) 1 (pos 5) 1) 0 ≡ iv (pos 2) 0 (pos 3) 0
unfolding outward_to rounded_down rounded_up
outward_2 = refl

outward_3 : outward_to (iv (negsuc 4) 1 (negsuc 4) 1) 0 ≡ iv (negsuc 2) 0 (negsuc 1) 0
unfolding outward_to rounded_down rounded_up
outward_3 = refl

outward_4 : outward_to (iv (negsuc 4) 1 (pos 5) 1) 1 ≡ iv (negsuc 4) 1 (pos 5) 1
unfolding outward_to rounded_down rounded_up
outward_4 = refl

outward_5 : outward_to (iv (negsuc 4) 1 (pos 5) 1) 4294967295 ≡ iv (negsuc 4) 1 (pos 5) 1
unfolding outward_to rounded_down rounded_up
outward_5 = refl

outward_6 : outward_to (iv (negsuc 0) 96 (pos 1) 96) 0 ≡ iv (negsuc 0) 0 (pos 1) 0
unfolding outward_to rounded_down rounded_up
outward_6 = refl

outward_7 : outward_to (iv (negsuc 0) 96 (pos 1) 96) 95 ≡ iv (negsuc 0) 95 (pos 1) 95
unfolding outward_to rounded_down rounded_up
outward_7 = refl

outward_8 : outward_to (iv (pos 1) 96 (negsuc 0) 96) 95 ≡ iv (pos 0) 0 (pos 0) 0
unfolding outward_to rounded_down rounded_up
outward_8 = refl

outward_9 : outward_to (iv (negsuc 1) 96 (pos 2) 96) 95 ≡ iv (negsuc 0) 95 (pos 1) 95
unfolding outward_to rounded_down rounded_up
outward_9 = refl

outward_10 : outward_to
    (iv (negsuc 170141183460469231731687303715884105727) 1 (pos 170141183460469231731687303715884105727) 1) 0
    ≡ iv (negsuc 85070591730234615865843651857942052863) 0 (pos 85070591730234615865843651857942052864) 0
unfolding outward_to rounded_down rounded_up
outward_10 = refl

outward_11 : outward_to
    (iv (negsuc 170141183460469231731687303715884105727) 128 (pos 170141183460469231731687303715884105727) 128) 0
    ≡ iv (negsuc 0) 0 (pos 1) 0
unfolding outward_to rounded_down rounded_up
outward_11 = refl

outward_12 : outward_to
    (iv (negsuc 170141183460469231731687303715884105727) 1000 (pos 170141183460469231731687303715884105727) 1000) 873
    ≡ iv (negsuc 0) 873 (pos 1) 873
unfolding outward_to rounded_down rounded_up
outward_12 = refl

outward_13 : outward_to (iv (pos 7) 3 (pos 1) 0) 2 ≡ iv (pos 3) 2 (pos 1) 0
unfolding outward_to rounded_down rounded_up
outward_13 = refl

outward_14 : outward_to (iv (negsuc 271828182845904523535) 70 (pos 314159265358979323846) 67) 40
    ≡ iv (negsuc 253159723101) 40 (pos 2340668926828) 40
unfolding outward_to rounded_down rounded_up
outward_14 = refl
