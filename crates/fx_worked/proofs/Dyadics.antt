-- Worked sums, differences, products and the order of dyadics, by whole numbers without bound in another language: a
-- wrong definition here is refused.
use Rattle.std.specs.Prelude.{◌≡◌, pos, negsuc, Bool, true, false, if◌then◌else◌, Option, Some, None, refl}
use Rattle.fx_rational.specs.Rational.{over, is_at_most}
use Rattle.fx_rational.specs.Dyadic.{Dyadic, dyadic_value, dyadic_sum, dyadic_difference, dyadic_product, sum_fits, difference_fits, product_fits, fits_128, is_dyadic_at_most}
use Rattle.fx_worked.proofs.Shifts.{dy}

-- the number where it fits
abbrev fitting : Bool → Dyadic → Option Dyadic
fitting fits d = if fits then Some d else None

operation_1 : (fitting (sum_fits (dy (pos 0) 0) (dy (pos 0) 0)) (dyadic_sum (dy (pos 0) 0) (dy (pos 0) 0))
    ≡ Some (dy (pos 0) 0)) ×
    (fitting (difference_fits (dy (pos 0) 0) (dy (pos 0) 0)) (dyadic_difference (dy (pos 0) 0) (dy (pos 0) 0))
    ≡ Some (dy (pos 0) 0)) ×
    (fitting (product_fits (dy (pos 0) 0) (dy (pos 0) 0)) (dyadic_product (dy (pos 0) 0) (dy (pos 0) 0))
    ≡ Some (dy (pos 0) 0)) × (is_dyadic_at_most (dy (pos 0) 0) (dy (pos 0) 0) ≡ true)
unfolding dyadic_sum dyadic_difference dyadic_product sum_fits difference_fits product_fits fits_128 dyadic_value over
    is_at_most
operation_1 = (refl, refl, refl, refl)

operation_2 : (fitting (sum_fits (dy (pos 1) 0) (dy (pos 1) 0)) (dyadic_sum (dy (pos 1) 0) (dy (pos 1) 0))
    ≡ Some (dy (pos 2) 0)) ×
    (fitting (difference_fits (dy (pos 1) 0) (dy (pos 1) 0)) (dyadic_difference (dy (pos 1) 0) (dy (pos 1) 0))
    ≡ Some (dy (pos 0) 0)) ×
    (fitting (product_fits (dy (pos 1) 0) (dy (pos 1) 0)) (dyadic_product (dy (pos 1) 0) (dy (pos 1) 0))
    ≡ Some (dy (pos 1) 0)) × (is_dyadic_at_most (dy (pos 1) 0) (dy (pos 1) 0) ≡ true)
unfolding dyadic_sum dyadic_difference dyadic_product sum_fits difference_fits product_fits fits_128 dyadic_value over
    is_at_most
operation_2 = (refl, refl, refl, refl)

operation_3 : (fitting (sum_fits (dy (pos 1) 0) (dy (negsuc 0) 0)) (dyadic_sum (dy (pos 1) 0) (dy (negsuc 0) 0))
    ≡ Some (dy (pos 0) 0)) ×
    (fitting (difference_fits (dy (pos 1) 0) (dy (negsuc 0) 0)) (dyadic_difference (dy (pos 1) 0) (dy (negsuc 0) 0))
    ≡ Some (dy (pos 2) 0)) ×
    (fitting (product_fits (dy (pos 1) 0) (dy (negsuc 0) 0)) (dyadic_product (dy (pos 1) 0) (dy (negsuc 0) 0))
    ≡ Some (dy (negsuc 0) 0)) × (is_dyadic_at_most (dy (pos 1) 0) (dy (negsuc 0) 0) ≡ false)
unfolding dyadic_sum dyadic_difference dyadic_product sum_fits difference_fits product_fits fits_128 dyadic_value over
    is_at_most
operation_3 = (refl, refl, refl, refl)

operation_4 : (fitting (sum_fits (dy (pos 3) 1) (dy (pos 3) 1)) (dyadic_sum (dy (pos 3) 1) (dy (pos 3) 1))
    ≡ Some (dy (pos 6) 1)) ×
    (fitting (difference_fits (dy (pos 3) 1) (dy (pos 3) 1)) (dyadic_difference (dy (pos 3) 1) (dy (pos 3) 1))
    ≡ Some (dy (pos 0) 0)) ×
    (fitting (product_fits (dy (pos 3) 1) (dy (pos 3) 1)) (dyadic_product (dy (pos 3) 1) (dy (pos 3) 1))
    ≡ Some (dy (pos 9) 2)) × (is_dyadic_at_most (dy (pos 3) 1) (dy (pos 3) 1) ≡ true)
unfolding dyadic_sum dyadic_difference dyadic_product sum_fits difference_fits product_fits fits_128 dyadic_value over
    is_at_most
operation_4 = (refl, refl, refl, refl)

operation_5 : (fitting (sum_fits (dy (pos 1) 1) (dy (pos 2) 2)) (dyadic_sum (dy (pos 1) 1) (dy (pos 2) 2))
    ≡ Some (dy (pos 4) 2)) ×
    (fitting (difference_fits (dy (pos 1) 1) (dy (pos 2) 2)) (dyadic_difference (dy (pos 1) 1) (dy (pos 2) 2))
    ≡ Some (dy (pos 0) 0)) ×
    (fitting (product_fits (dy (pos 1) 1) (dy (pos 2) 2)) (dyadic_product (dy (pos 1) 1) (dy (pos 2) 2))
    ≡ Some (dy (pos 2) 3)) × (is_dyadic_at_most (dy (pos 1) 1) (dy (pos 2) 2) ≡ true)
unfolding dyadic_sum dyadic_difference dyadic_product sum_fits difference_fits product_fits fits_128 dyadic_value over
    is_at_most
operation_5 = (refl, refl, refl, refl)

operation_6 : (fitting (sum_fits (dy (pos 2) 2) (dy (pos 1) 1)) (dyadic_sum (dy (pos 2) 2) (dy (pos 1) 1))
    ≡ Some (dy (pos 4) 2)) ×
    (fitting (difference_fits (dy (pos 2) 2) (dy (pos 1) 1)) (dyadic_difference (dy (pos 2) 2) (dy (pos 1) 1))
    ≡ Some (dy (pos 0) 0)) ×
    (fitting (product_fits (dy (pos 2) 2) (dy (pos 1) 1)) (dyadic_product (dy (pos 2) 2) (dy (pos 1) 1))
    ≡ Some (dy (pos 2) 3)) × (is_dyadic_at_most (dy (pos 2) 2) (dy (pos 1) 1) ≡ true)
unfolding dyadic_sum dyadic_difference dyadic_product sum_fits difference_fits product_fits fits_128 dyadic_value over
    is_at_most
operation_6 = (refl, refl, refl, refl)

operation_7 : (fitting (sum_fits (dy (pos 1) 1) (dy (pos 1) 2)) (dyadic_sum (dy (pos 1) 1) (dy (pos 1) 2))
    ≡ Some (dy (pos 3) 2)) ×
    (fitting (difference_fits (dy (pos 1) 1) (dy (pos 1) 2)) (dyadic_difference (dy (pos 1) 1) (dy (pos 1) 2))
    ≡ Some (dy (pos 1) 2)) ×
    (fitting (product_fits (dy (pos 1) 1) (dy (pos 1) 2)) (dyadic_product (dy (pos 1) 1) (dy (pos 1) 2))
    ≡ Some (dy (pos 1) 3)) × (is_dyadic_at_most (dy (pos 1) 1) (dy (pos 1) 2) ≡ false)
unfolding dyadic_sum dyadic_difference dyadic_product sum_fits difference_fits product_fits fits_128 dyadic_value over
    is_at_most
operation_7 = (refl, refl, refl, refl)

operation_8 : (fitting (sum_fits (dy (negsuc 0) 1) (dy (negsuc 0) 2)) (dyadic_sum (dy (negsuc 0) 1) (dy (negsuc 0) 2))
    ≡ Some (dy (negsuc 2) 2)) ×
    (fitting (difference_fits (dy (negsuc 0) 1) (dy (negsuc 0) 2))
    (dyadic_difference (dy (negsuc 0) 1) (dy (negsuc 0) 2)) ≡ Some (dy (negsuc 0) 2)) ×
    (fitting (product_fits (dy (negsuc 0) 1) (dy (negsuc 0) 2)) (dyadic_product (dy (negsuc 0) 1) (dy (negsuc 0) 2))
    ≡ Some (dy (pos 1) 3)) × (is_dyadic_at_most (dy (negsuc 0) 1) (dy (negsuc 0) 2) ≡ true)
unfolding dyadic_sum dyadic_difference dyadic_product sum_fits difference_fits product_fits fits_128 dyadic_value over
    is_at_most
operation_8 = (refl, refl, refl, refl)

operation_9 : (fitting (sum_fits (dy (pos 170141183460469231731687303715884105727) 0) (dy (pos 0) 0))
    (dyadic_sum (dy (pos 170141183460469231731687303715884105727) 0) (dy (pos 0) 0))
    ≡ Some (dy (pos 170141183460469231731687303715884105727) 0)) ×
    (fitting (difference_fits (dy (pos 170141183460469231731687303715884105727) 0) (dy (pos 0) 0))
    (dyadic_difference (dy (pos 170141183460469231731687303715884105727) 0) (dy (pos 0) 0))
    ≡ Some (dy (pos 170141183460469231731687303715884105727) 0)) ×
    (fitting (product_fits (dy (pos 170141183460469231731687303715884105727) 0) (dy (pos 0) 0))
    (dyadic_product (dy (pos 170141183460469231731687303715884105727) 0) (dy (pos 0) 0)) ≡ Some (dy (pos 0) 0)) ×
    (is_dyadic_at_most (dy (pos 170141183460469231731687303715884105727) 0) (dy (pos 0) 0) ≡ false)
unfolding dyadic_sum dyadic_difference dyadic_product sum_fits difference_fits product_fits fits_128 dyadic_value over
    is_at_most
operation_9 = (refl, refl, refl, refl)

operation_10 : (fitting (sum_fits (dy (pos 170141183460469231731687303715884105727) 0) (dy (pos 1) 0))
    (dyadic_sum (dy (pos 170141183460469231731687303715884105727) 0) (dy (pos 1) 0)) ≡ None) ×
    (fitting (difference_fits (dy (pos 170141183460469231731687303715884105727) 0) (dy (pos 1) 0))
    (dyadic_difference (dy (pos 170141183460469231731687303715884105727) 0) (dy (pos 1) 0))
    ≡ Some (dy (pos 170141183460469231731687303715884105726) 0)) ×
    (fitting (product_fits (dy (pos 170141183460469231731687303715884105727) 0) (dy (pos 1) 0))
    (dyadic_product (dy (pos 170141183460469231731687303715884105727) 0) (dy (pos 1) 0))
    ≡ Some (dy (pos 170141183460469231731687303715884105727) 0)) ×
    (is_dyadic_at_most (dy (pos 170141183460469231731687303715884105727) 0) (dy (pos 1) 0) ≡ false)
unfolding dyadic_sum dyadic_difference dyadic_product sum_fits difference_fits product_fits fits_128 dyadic_value over
    is_at_most
operation_10 = (refl, refl, refl, refl)

operation_11 : (fitting (sum_fits (dy (pos 170141183460469231731687303715884105726) 0) (dy (pos 1) 0))
    (dyadic_sum (dy (pos 170141183460469231731687303715884105726) 0) (dy (pos 1) 0))
    ≡ Some (dy (pos 170141183460469231731687303715884105727) 0)) ×
    (fitting (difference_fits (dy (pos 170141183460469231731687303715884105726) 0) (dy (pos 1) 0))
    (dyadic_difference (dy (pos 170141183460469231731687303715884105726) 0) (dy (pos 1) 0))
    ≡ Some (dy (pos 170141183460469231731687303715884105725) 0)) ×
    (fitting (product_fits (dy (pos 170141183460469231731687303715884105726) 0) (dy (pos 1) 0))
    (dyadic_product (dy (pos 170141183460469231731687303715884105726) 0) (dy (pos 1) 0))
    ≡ Some (dy (pos 170141183460469231731687303715884105726) 0)) ×
    (is_dyadic_at_most (dy (pos 170141183460469231731687303715884105726) 0) (dy (pos 1) 0) ≡ false)
unfolding dyadic_sum dyadic_difference dyadic_product sum_fits difference_fits product_fits fits_128 dyadic_value over
    is_at_most
operation_11 = (refl, refl, refl, refl)

operation_12 : (fitting (sum_fits (dy (negsuc 170141183460469231731687303715884105727) 0) (dy (negsuc 0) 0))
    (dyadic_sum (dy (negsuc 170141183460469231731687303715884105727) 0) (dy (negsuc 0) 0)) ≡ None) ×
    (fitting (difference_fits (dy (negsuc 170141183460469231731687303715884105727) 0) (dy (negsuc 0) 0))
    (dyadic_difference (dy (negsuc 170141183460469231731687303715884105727) 0) (dy (negsuc 0) 0))
    ≡ Some (dy (negsuc 170141183460469231731687303715884105726) 0)) ×
    (fitting (product_fits (dy (negsuc 170141183460469231731687303715884105727) 0) (dy (negsuc 0) 0))
    (dyadic_product (dy (negsuc 170141183460469231731687303715884105727) 0) (dy (negsuc 0) 0)) ≡ None) ×
    (is_dyadic_at_most (dy (negsuc 170141183460469231731687303715884105727) 0) (dy (negsuc 0) 0) ≡ true)
unfolding dyadic_sum dyadic_difference dyadic_product sum_fits difference_fits product_fits fits_128 dyadic_value over
    is_at_most
operation_12 = (refl, refl, refl, refl)

operation_13 : (fitting (sum_fits (dy (negsuc 170141183460469231731687303715884105727) 0) (dy (pos 1) 0))
    (dyadic_sum (dy (negsuc 170141183460469231731687303715884105727) 0) (dy (pos 1) 0))
    ≡ Some (dy (negsuc 170141183460469231731687303715884105726) 0)) ×
    (fitting (difference_fits (dy (negsuc 170141183460469231731687303715884105727) 0) (dy (pos 1) 0))
    (dyadic_difference (dy (negsuc 170141183460469231731687303715884105727) 0) (dy (pos 1) 0)) ≡ None) ×
    (fitting (product_fits (dy (negsuc 170141183460469231731687303715884105727) 0) (dy (pos 1) 0))
    (dyadic_product (dy (negsuc 170141183460469231731687303715884105727) 0) (dy (pos 1) 0))
    ≡ Some (dy (negsuc 170141183460469231731687303715884105727) 0)) ×
    (is_dyadic_at_most (dy (negsuc 170141183460469231731687303715884105727) 0) (dy (pos 1) 0) ≡ true)
unfolding dyadic_sum dyadic_difference dyadic_product sum_fits difference_fits product_fits fits_128 dyadic_value over
    is_at_most
operation_13 = (refl, refl, refl, refl)

operation_14 : (fitting (sum_fits (dy (negsuc 170141183460469231731687303715884105726) 0) (dy (negsuc 0) 0))
    (dyadic_sum (dy (negsuc 170141183460469231731687303715884105726) 0) (dy (negsuc 0) 0))
    ≡ Some (dy (negsuc 170141183460469231731687303715884105727) 0)) ×
    (fitting (difference_fits (dy (negsuc 170141183460469231731687303715884105726) 0) (dy (negsuc 0) 0))
    (dyadic_difference (dy (negsuc 170141183460469231731687303715884105726) 0) (dy (negsuc 0) 0))
    ≡ Some (dy (negsuc 170141183460469231731687303715884105725) 0)) ×
    (fitting (product_fits (dy (negsuc 170141183460469231731687303715884105726) 0) (dy (negsuc 0) 0))
    (dyadic_product (dy (negsuc 170141183460469231731687303715884105726) 0) (dy (negsuc 0) 0))
    ≡ Some (dy (pos 170141183460469231731687303715884105727) 0)) ×
    (is_dyadic_at_most (dy (negsuc 170141183460469231731687303715884105726) 0) (dy (negsuc 0) 0) ≡ true)
unfolding dyadic_sum dyadic_difference dyadic_product sum_fits difference_fits product_fits fits_128 dyadic_value over
    is_at_most
operation_14 = (refl, refl, refl, refl)

operation_15 : (fitting
    (sum_fits (dy (negsuc 170141183460469231731687303715884105727) 0)
    (dy (negsuc 170141183460469231731687303715884105727) 0)) (dyadic_sum
    (dy (negsuc 170141183460469231731687303715884105727) 0) (dy (negsuc 170141183460469231731687303715884105727) 0))
    ≡ None) × (fitting (difference_fits (dy (negsuc 170141183460469231731687303715884105727) 0)
    (dy (negsuc 170141183460469231731687303715884105727) 0)) (dyadic_difference
    (dy (negsuc 170141183460469231731687303715884105727) 0) (dy (negsuc 170141183460469231731687303715884105727) 0))
    ≡ Some (dy (pos 0) 0)) ×
    (fitting (product_fits (dy (negsuc 170141183460469231731687303715884105727) 0)
    (dy (negsuc 170141183460469231731687303715884105727) 0)) (dyadic_product
    (dy (negsuc 170141183460469231731687303715884105727) 0) (dy (negsuc 170141183460469231731687303715884105727) 0))
    ≡ None) × (is_dyadic_at_most (dy (negsuc 170141183460469231731687303715884105727) 0)
    (dy (negsuc 170141183460469231731687303715884105727) 0) ≡ true)
unfolding dyadic_sum dyadic_difference dyadic_product sum_fits difference_fits product_fits fits_128 dyadic_value over
    is_at_most
operation_15 = (refl, refl, refl, refl)

operation_16 : (fitting
    (sum_fits (dy (pos 170141183460469231731687303715884105727) 0) (dy (pos 170141183460469231731687303715884105727) 0))
    (dyadic_sum (dy (pos 170141183460469231731687303715884105727) 0)
    (dy (pos 170141183460469231731687303715884105727) 0)) ≡ None) ×
    (fitting (difference_fits (dy (pos 170141183460469231731687303715884105727) 0)
    (dy (pos 170141183460469231731687303715884105727) 0)) (dyadic_difference
    (dy (pos 170141183460469231731687303715884105727) 0) (dy (pos 170141183460469231731687303715884105727) 0))
    ≡ Some (dy (pos 0) 0)) ×
    (fitting (product_fits (dy (pos 170141183460469231731687303715884105727) 0)
    (dy (pos 170141183460469231731687303715884105727) 0)) (dyadic_product
    (dy (pos 170141183460469231731687303715884105727) 0) (dy (pos 170141183460469231731687303715884105727) 0)) ≡ None) ×
    (is_dyadic_at_most (dy (pos 170141183460469231731687303715884105727) 0)
    (dy (pos 170141183460469231731687303715884105727) 0) ≡ true)
unfolding dyadic_sum dyadic_difference dyadic_product sum_fits difference_fits product_fits fits_128 dyadic_value over
    is_at_most
operation_16 = (refl, refl, refl, refl)

operation_17 : (fitting
    (sum_fits (dy (pos 170141183460469231731687303715884105727) 0)
    (dy (negsuc 170141183460469231731687303715884105727) 0)) (dyadic_sum
    (dy (pos 170141183460469231731687303715884105727) 0) (dy (negsuc 170141183460469231731687303715884105727) 0))
    ≡ Some (dy (negsuc 0) 0)) ×
    (fitting (difference_fits (dy (pos 170141183460469231731687303715884105727) 0)
    (dy (negsuc 170141183460469231731687303715884105727) 0)) (dyadic_difference
    (dy (pos 170141183460469231731687303715884105727) 0) (dy (negsuc 170141183460469231731687303715884105727) 0))
    ≡ None) × (fitting (product_fits (dy (pos 170141183460469231731687303715884105727) 0)
    (dy (negsuc 170141183460469231731687303715884105727) 0)) (dyadic_product
    (dy (pos 170141183460469231731687303715884105727) 0) (dy (negsuc 170141183460469231731687303715884105727) 0))
    ≡ None) × (is_dyadic_at_most (dy (pos 170141183460469231731687303715884105727) 0)
    (dy (negsuc 170141183460469231731687303715884105727) 0) ≡ false)
unfolding dyadic_sum dyadic_difference dyadic_product sum_fits difference_fits product_fits fits_128 dyadic_value over
    is_at_most
operation_17 = (refl, refl, refl, refl)

operation_18 : (fitting (sum_fits (dy (pos 0) 0) (dy (negsuc 170141183460469231731687303715884105727) 0))
    (dyadic_sum (dy (pos 0) 0) (dy (negsuc 170141183460469231731687303715884105727) 0))
    ≡ Some (dy (negsuc 170141183460469231731687303715884105727) 0)) ×
    (fitting (difference_fits (dy (pos 0) 0) (dy (negsuc 170141183460469231731687303715884105727) 0))
    (dyadic_difference (dy (pos 0) 0) (dy (negsuc 170141183460469231731687303715884105727) 0)) ≡ None) ×
    (fitting (product_fits (dy (pos 0) 0) (dy (negsuc 170141183460469231731687303715884105727) 0))
    (dyadic_product (dy (pos 0) 0) (dy (negsuc 170141183460469231731687303715884105727) 0)) ≡ Some (dy (pos 0) 0)) ×
    (is_dyadic_at_most (dy (pos 0) 0) (dy (negsuc 170141183460469231731687303715884105727) 0) ≡ false)
unfolding dyadic_sum dyadic_difference dyadic_product sum_fits difference_fits product_fits fits_128 dyadic_value over
    is_at_most
operation_18 = (refl, refl, refl, refl)

operation_19 : (fitting (sum_fits (dy (pos 1) 0) (dy (pos 1) 96)) (dyadic_sum (dy (pos 1) 0) (dy (pos 1) 96))
    ≡ Some (dy (pos 79228162514264337593543950337) 96)) ×
    (fitting (difference_fits (dy (pos 1) 0) (dy (pos 1) 96)) (dyadic_difference (dy (pos 1) 0) (dy (pos 1) 96))
    ≡ Some (dy (pos 79228162514264337593543950335) 96)) ×
    (fitting (product_fits (dy (pos 1) 0) (dy (pos 1) 96)) (dyadic_product (dy (pos 1) 0) (dy (pos 1) 96))
    ≡ Some (dy (pos 1) 96)) × (is_dyadic_at_most (dy (pos 1) 0) (dy (pos 1) 96) ≡ false)
unfolding dyadic_sum dyadic_difference dyadic_product sum_fits difference_fits product_fits fits_128 dyadic_value over
    is_at_most
operation_19 = (refl, refl, refl, refl)

operation_20 : (fitting (sum_fits (dy (pos 1073741824) 0) (dy (pos 1) 96))
    (dyadic_sum (dy (pos 1073741824) 0) (dy (pos 1) 96)) ≡ Some (dy (pos 85070591730234615865843651857942052865) 96)) ×
    (fitting (difference_fits (dy (pos 1073741824) 0) (dy (pos 1) 96))
    (dyadic_difference (dy (pos 1073741824) 0) (dy (pos 1) 96))
    ≡ Some (dy (pos 85070591730234615865843651857942052863) 96)) ×
    (fitting (product_fits (dy (pos 1073741824) 0) (dy (pos 1) 96))
    (dyadic_product (dy (pos 1073741824) 0) (dy (pos 1) 96)) ≡ Some (dy (pos 1073741824) 96)) ×
    (is_dyadic_at_most (dy (pos 1073741824) 0) (dy (pos 1) 96) ≡ false)
unfolding dyadic_sum dyadic_difference dyadic_product sum_fits difference_fits product_fits fits_128 dyadic_value over
    is_at_most
operation_20 = (refl, refl, refl, refl)

operation_21 : (fitting (sum_fits (dy (pos 2147483647) 0) (dy (pos 1) 96))
    (dyadic_sum (dy (pos 2147483647) 0) (dy (pos 1) 96)) ≡ Some (dy (pos 170141183381241069217422966122340155393) 96)) ×
    (fitting (difference_fits (dy (pos 2147483647) 0) (dy (pos 1) 96))
    (dyadic_difference (dy (pos 2147483647) 0) (dy (pos 1) 96))
    ≡ Some (dy (pos 170141183381241069217422966122340155391) 96)) ×
    (fitting (product_fits (dy (pos 2147483647) 0) (dy (pos 1) 96))
    (dyadic_product (dy (pos 2147483647) 0) (dy (pos 1) 96)) ≡ Some (dy (pos 2147483647) 96)) ×
    (is_dyadic_at_most (dy (pos 2147483647) 0) (dy (pos 1) 96) ≡ false)
unfolding dyadic_sum dyadic_difference dyadic_product sum_fits difference_fits product_fits fits_128 dyadic_value over
    is_at_most
operation_21 = (refl, refl, refl, refl)

operation_22 : (fitting (sum_fits (dy (pos 2147483648) 0) (dy (pos 1) 96))
    (dyadic_sum (dy (pos 2147483648) 0) (dy (pos 1) 96)) ≡ None) ×
    (fitting (difference_fits (dy (pos 2147483648) 0) (dy (pos 1) 96))
    (dyadic_difference (dy (pos 2147483648) 0) (dy (pos 1) 96)) ≡ None) ×
    (fitting (product_fits (dy (pos 2147483648) 0) (dy (pos 1) 96))
    (dyadic_product (dy (pos 2147483648) 0) (dy (pos 1) 96)) ≡ Some (dy (pos 2147483648) 96)) ×
    (is_dyadic_at_most (dy (pos 2147483648) 0) (dy (pos 1) 96) ≡ false)
unfolding dyadic_sum dyadic_difference dyadic_product sum_fits difference_fits product_fits fits_128 dyadic_value over
    is_at_most
operation_22 = (refl, refl, refl, refl)

operation_23 : (fitting (sum_fits (dy (negsuc 2147483647) 0) (dy (pos 1) 96))
    (dyadic_sum (dy (negsuc 2147483647) 0) (dy (pos 1) 96))
    ≡ Some (dy (negsuc 170141183460469231731687303715884105726) 96)) ×
    (fitting (difference_fits (dy (negsuc 2147483647) 0) (dy (pos 1) 96))
    (dyadic_difference (dy (negsuc 2147483647) 0) (dy (pos 1) 96)) ≡ None) ×
    (fitting (product_fits (dy (negsuc 2147483647) 0) (dy (pos 1) 96))
    (dyadic_product (dy (negsuc 2147483647) 0) (dy (pos 1) 96)) ≡ Some (dy (negsuc 2147483647) 96)) ×
    (is_dyadic_at_most (dy (negsuc 2147483647) 0) (dy (pos 1) 96) ≡ true)
unfolding dyadic_sum dyadic_difference dyadic_product sum_fits difference_fits product_fits fits_128 dyadic_value over
    is_at_most
operation_23 = (refl, refl, refl, refl)

operation_24 : (fitting (sum_fits (dy (negsuc 2147483647) 0) (dy (negsuc 0) 96))
    (dyadic_sum (dy (negsuc 2147483647) 0) (dy (negsuc 0) 96)) ≡ None) ×
    (fitting (difference_fits (dy (negsuc 2147483647) 0) (dy (negsuc 0) 96))
    (dyadic_difference (dy (negsuc 2147483647) 0) (dy (negsuc 0) 96))
    ≡ Some (dy (negsuc 170141183460469231731687303715884105726) 96)) ×
    (fitting (product_fits (dy (negsuc 2147483647) 0) (dy (negsuc 0) 96))
    (dyadic_product (dy (negsuc 2147483647) 0) (dy (negsuc 0) 96)) ≡ Some (dy (pos 2147483648) 96)) ×
    (is_dyadic_at_most (dy (negsuc 2147483647) 0) (dy (negsuc 0) 96) ≡ true)
unfolding dyadic_sum dyadic_difference dyadic_product sum_fits difference_fits product_fits fits_128 dyadic_value over
    is_at_most
operation_24 = (refl, refl, refl, refl)

operation_25 : (fitting (sum_fits (dy (negsuc 2147483647) 0) (dy (pos 0) 0))
    (dyadic_sum (dy (negsuc 2147483647) 0) (dy (pos 0) 0)) ≡ Some (dy (negsuc 2147483647) 0)) ×
    (fitting (difference_fits (dy (negsuc 2147483647) 0) (dy (pos 0) 0))
    (dyadic_difference (dy (negsuc 2147483647) 0) (dy (pos 0) 0)) ≡ Some (dy (negsuc 2147483647) 0)) ×
    (fitting (product_fits (dy (negsuc 2147483647) 0) (dy (pos 0) 0))
    (dyadic_product (dy (negsuc 2147483647) 0) (dy (pos 0) 0)) ≡ Some (dy (pos 0) 0)) ×
    (is_dyadic_at_most (dy (negsuc 2147483647) 0) (dy (pos 0) 0) ≡ true)
unfolding dyadic_sum dyadic_difference dyadic_product sum_fits difference_fits product_fits fits_128 dyadic_value over
    is_at_most
operation_25 = (refl, refl, refl, refl)

operation_26 : (fitting (sum_fits (dy (pos 1) 0) (dy (pos 1) 1000)) (dyadic_sum (dy (pos 1) 0) (dy (pos 1) 1000))
    ≡ None) × (fitting (difference_fits (dy (pos 1) 0) (dy (pos 1) 1000))
    (dyadic_difference (dy (pos 1) 0) (dy (pos 1) 1000)) ≡ None) ×
    (fitting (product_fits (dy (pos 1) 0) (dy (pos 1) 1000)) (dyadic_product (dy (pos 1) 0) (dy (pos 1) 1000))
    ≡ Some (dy (pos 1) 1000)) × (is_dyadic_at_most (dy (pos 1) 0) (dy (pos 1) 1000) ≡ false)
unfolding dyadic_sum dyadic_difference dyadic_product sum_fits difference_fits product_fits fits_128 dyadic_value over
    is_at_most
operation_26 = (refl, refl, refl, refl)

operation_27 : (fitting (sum_fits (dy (pos 0) 0) (dy (pos 7) 1000)) (dyadic_sum (dy (pos 0) 0) (dy (pos 7) 1000))
    ≡ Some (dy (pos 7) 1000)) ×
    (fitting (difference_fits (dy (pos 0) 0) (dy (pos 7) 1000)) (dyadic_difference (dy (pos 0) 0) (dy (pos 7) 1000))
    ≡ Some (dy (negsuc 6) 1000)) ×
    (fitting (product_fits (dy (pos 0) 0) (dy (pos 7) 1000)) (dyadic_product (dy (pos 0) 0) (dy (pos 7) 1000))
    ≡ Some (dy (pos 0) 0)) × (is_dyadic_at_most (dy (pos 0) 0) (dy (pos 7) 1000) ≡ true)
unfolding dyadic_sum dyadic_difference dyadic_product sum_fits difference_fits product_fits fits_128 dyadic_value over
    is_at_most
operation_27 = (refl, refl, refl, refl)

operation_28 : (fitting (sum_fits (dy (negsuc 0) 0) (dy (pos 1) 1000)) (dyadic_sum (dy (negsuc 0) 0) (dy (pos 1) 1000))
    ≡ None) × (fitting (difference_fits (dy (negsuc 0) 0) (dy (pos 1) 1000))
    (dyadic_difference (dy (negsuc 0) 0) (dy (pos 1) 1000)) ≡ None) ×
    (fitting (product_fits (dy (negsuc 0) 0) (dy (pos 1) 1000)) (dyadic_product (dy (negsuc 0) 0) (dy (pos 1) 1000))
    ≡ Some (dy (negsuc 0) 1000)) × (is_dyadic_at_most (dy (negsuc 0) 0) (dy (pos 1) 1000) ≡ true)
unfolding dyadic_sum dyadic_difference dyadic_product sum_fits difference_fits product_fits fits_128 dyadic_value over
    is_at_most
operation_28 = (refl, refl, refl, refl)

operation_29 : (fitting (sum_fits (dy (pos 1) 1000) (dy (negsuc 0) 0)) (dyadic_sum (dy (pos 1) 1000) (dy (negsuc 0) 0))
    ≡ None) × (fitting (difference_fits (dy (pos 1) 1000) (dy (negsuc 0) 0))
    (dyadic_difference (dy (pos 1) 1000) (dy (negsuc 0) 0)) ≡ None) ×
    (fitting (product_fits (dy (pos 1) 1000) (dy (negsuc 0) 0)) (dyadic_product (dy (pos 1) 1000) (dy (negsuc 0) 0))
    ≡ Some (dy (negsuc 0) 1000)) × (is_dyadic_at_most (dy (pos 1) 1000) (dy (negsuc 0) 0) ≡ false)
unfolding dyadic_sum dyadic_difference dyadic_product sum_fits difference_fits product_fits fits_128 dyadic_value over
    is_at_most
operation_29 = (refl, refl, refl, refl)

operation_30 : (fitting (sum_fits (dy (pos 1) 127) (dy (pos 1) 0)) (dyadic_sum (dy (pos 1) 127) (dy (pos 1) 0))
    ≡ None) × (fitting (difference_fits (dy (pos 1) 127) (dy (pos 1) 0))
    (dyadic_difference (dy (pos 1) 127) (dy (pos 1) 0)) ≡ None) ×
    (fitting (product_fits (dy (pos 1) 127) (dy (pos 1) 0)) (dyadic_product (dy (pos 1) 127) (dy (pos 1) 0))
    ≡ Some (dy (pos 1) 127)) × (is_dyadic_at_most (dy (pos 1) 127) (dy (pos 1) 0) ≡ true)
unfolding dyadic_sum dyadic_difference dyadic_product sum_fits difference_fits product_fits fits_128 dyadic_value over
    is_at_most
operation_30 = (refl, refl, refl, refl)

operation_31 : (fitting (sum_fits (dy (negsuc 0) 0) (dy (pos 1) 127)) (dyadic_sum (dy (negsuc 0) 0) (dy (pos 1) 127))
    ≡ Some (dy (negsuc 170141183460469231731687303715884105726) 127)) ×
    (fitting (difference_fits (dy (negsuc 0) 0) (dy (pos 1) 127)) (dyadic_difference (dy (negsuc 0) 0) (dy (pos 1) 127))
    ≡ None) × (fitting (product_fits (dy (negsuc 0) 0) (dy (pos 1) 127))
    (dyadic_product (dy (negsuc 0) 0) (dy (pos 1) 127)) ≡ Some (dy (negsuc 0) 127)) ×
    (is_dyadic_at_most (dy (negsuc 0) 0) (dy (pos 1) 127) ≡ true)
unfolding dyadic_sum dyadic_difference dyadic_product sum_fits difference_fits product_fits fits_128 dyadic_value over
    is_at_most
operation_31 = (refl, refl, refl, refl)

operation_32 : (fitting (sum_fits (dy (pos 1) 126) (dy (pos 1) 0)) (dyadic_sum (dy (pos 1) 126) (dy (pos 1) 0))
    ≡ Some (dy (pos 85070591730234615865843651857942052865) 126)) ×
    (fitting (difference_fits (dy (pos 1) 126) (dy (pos 1) 0)) (dyadic_difference (dy (pos 1) 126) (dy (pos 1) 0))
    ≡ Some (dy (negsuc 85070591730234615865843651857942052862) 126)) ×
    (fitting (product_fits (dy (pos 1) 126) (dy (pos 1) 0)) (dyadic_product (dy (pos 1) 126) (dy (pos 1) 0))
    ≡ Some (dy (pos 1) 126)) × (is_dyadic_at_most (dy (pos 1) 126) (dy (pos 1) 0) ≡ true)
unfolding dyadic_sum dyadic_difference dyadic_product sum_fits difference_fits product_fits fits_128 dyadic_value over
    is_at_most
operation_32 = (refl, refl, refl, refl)

operation_33 : (fitting (sum_fits (dy (negsuc 0) 0) (dy (negsuc 0) 127))
    (dyadic_sum (dy (negsuc 0) 0) (dy (negsuc 0) 127)) ≡ None) ×
    (fitting (difference_fits (dy (negsuc 0) 0) (dy (negsuc 0) 127))
    (dyadic_difference (dy (negsuc 0) 0) (dy (negsuc 0) 127))
    ≡ Some (dy (negsuc 170141183460469231731687303715884105726) 127)) ×
    (fitting (product_fits (dy (negsuc 0) 0) (dy (negsuc 0) 127)) (dyadic_product (dy (negsuc 0) 0) (dy (negsuc 0) 127))
    ≡ Some (dy (pos 1) 127)) × (is_dyadic_at_most (dy (negsuc 0) 0) (dy (negsuc 0) 127) ≡ true)
unfolding dyadic_sum dyadic_difference dyadic_product sum_fits difference_fits product_fits fits_128 dyadic_value over
    is_at_most
operation_33 = (refl, refl, refl, refl)

operation_34 : (fitting (sum_fits (dy (pos 18446744073709551616) 10) (dy (pos 4611686018427387904) 20))
    (dyadic_sum (dy (pos 18446744073709551616) 10) (dy (pos 4611686018427387904) 20))
    ≡ Some (dy (pos 18894077617497008242688) 20)) ×
    (fitting (difference_fits (dy (pos 18446744073709551616) 10) (dy (pos 4611686018427387904) 20))
    (dyadic_difference (dy (pos 18446744073709551616) 10) (dy (pos 4611686018427387904) 20))
    ≡ Some (dy (pos 18884854245460153466880) 20)) ×
    (fitting (product_fits (dy (pos 18446744073709551616) 10) (dy (pos 4611686018427387904) 20))
    (dyadic_product (dy (pos 18446744073709551616) 10) (dy (pos 4611686018427387904) 20))
    ≡ Some (dy (pos 85070591730234615865843651857942052864) 30)) ×
    (is_dyadic_at_most (dy (pos 18446744073709551616) 10) (dy (pos 4611686018427387904) 20) ≡ false)
unfolding dyadic_sum dyadic_difference dyadic_product sum_fits difference_fits product_fits fits_128 dyadic_value over
    is_at_most
operation_34 = (refl, refl, refl, refl)

operation_35 : (fitting (sum_fits (dy (pos 18446744073709551616) 10) (dy (pos 9223372036854775808) 20))
    (dyadic_sum (dy (pos 18446744073709551616) 10) (dy (pos 9223372036854775808) 20))
    ≡ Some (dy (pos 18898689303515435630592) 20)) ×
    (fitting (difference_fits (dy (pos 18446744073709551616) 10) (dy (pos 9223372036854775808) 20))
    (dyadic_difference (dy (pos 18446744073709551616) 10) (dy (pos 9223372036854775808) 20))
    ≡ Some (dy (pos 18880242559441726078976) 20)) ×
    (fitting (product_fits (dy (pos 18446744073709551616) 10) (dy (pos 9223372036854775808) 20))
    (dyadic_product (dy (pos 18446744073709551616) 10) (dy (pos 9223372036854775808) 20)) ≡ None) ×
    (is_dyadic_at_most (dy (pos 18446744073709551616) 10) (dy (pos 9223372036854775808) 20) ≡ false)
unfolding dyadic_sum dyadic_difference dyadic_product sum_fits difference_fits product_fits fits_128 dyadic_value over
    is_at_most
operation_35 = (refl, refl, refl, refl)

operation_36 : (fitting (sum_fits (dy (negsuc 18446744073709551615) 10) (dy (pos 9223372036854775808) 20))
    (dyadic_sum (dy (negsuc 18446744073709551615) 10) (dy (pos 9223372036854775808) 20))
    ≡ Some (dy (negsuc 18880242559441726078975) 20)) ×
    (fitting (difference_fits (dy (negsuc 18446744073709551615) 10) (dy (pos 9223372036854775808) 20))
    (dyadic_difference (dy (negsuc 18446744073709551615) 10) (dy (pos 9223372036854775808) 20))
    ≡ Some (dy (negsuc 18898689303515435630591) 20)) ×
    (fitting (product_fits (dy (negsuc 18446744073709551615) 10) (dy (pos 9223372036854775808) 20))
    (dyadic_product (dy (negsuc 18446744073709551615) 10) (dy (pos 9223372036854775808) 20))
    ≡ Some (dy (negsuc 170141183460469231731687303715884105727) 30)) ×
    (is_dyadic_at_most (dy (negsuc 18446744073709551615) 10) (dy (pos 9223372036854775808) 20) ≡ true)
unfolding dyadic_sum dyadic_difference dyadic_product sum_fits difference_fits product_fits fits_128 dyadic_value over
    is_at_most
operation_36 = (refl, refl, refl, refl)

operation_37 : (fitting (sum_fits (dy (negsuc 9223372036854775807) 0) (dy (negsuc 18446744073709551615) 0))
    (dyadic_sum (dy (negsuc 9223372036854775807) 0) (dy (negsuc 18446744073709551615) 0))
    ≡ Some (dy (negsuc 27670116110564327423) 0)) ×
    (fitting (difference_fits (dy (negsuc 9223372036854775807) 0) (dy (negsuc 18446744073709551615) 0))
    (dyadic_difference (dy (negsuc 9223372036854775807) 0) (dy (negsuc 18446744073709551615) 0))
    ≡ Some (dy (pos 9223372036854775808) 0)) ×
    (fitting (product_fits (dy (negsuc 9223372036854775807) 0) (dy (negsuc 18446744073709551615) 0))
    (dyadic_product (dy (negsuc 9223372036854775807) 0) (dy (negsuc 18446744073709551615) 0)) ≡ None) ×
    (is_dyadic_at_most (dy (negsuc 9223372036854775807) 0) (dy (negsuc 18446744073709551615) 0) ≡ false)
unfolding dyadic_sum dyadic_difference dyadic_product sum_fits difference_fits product_fits fits_128 dyadic_value over
    is_at_most
operation_37 = (refl, refl, refl, refl)

operation_38 : (fitting (sum_fits (dy (pos 12345678901234567890) 33) (dy (negsuc 98765432109876543209) 47))
    (dyadic_sum (dy (pos 12345678901234567890) 33) (dy (negsuc 98765432109876543209) 47))
    ≡ Some (dy (pos 202172837685717283766550) 47)) ×
    (fitting (difference_fits (dy (pos 12345678901234567890) 33) (dy (negsuc 98765432109876543209) 47))
    (dyadic_difference (dy (pos 12345678901234567890) 33) (dy (negsuc 98765432109876543209) 47))
    ≡ Some (dy (pos 202370368549937036852970) 47)) ×
    (fitting (product_fits (dy (pos 12345678901234567890) 33) (dy (negsuc 98765432109876543209) 47))
    (dyadic_product (dy (pos 12345678901234567890) 33) (dy (negsuc 98765432109876543209) 47)) ≡ None) ×
    (is_dyadic_at_most (dy (pos 12345678901234567890) 33) (dy (negsuc 98765432109876543209) 47) ≡ false)
unfolding dyadic_sum dyadic_difference dyadic_product sum_fits difference_fits product_fits fits_128 dyadic_value over
    is_at_most
operation_38 = (refl, refl, refl, refl)

operation_39 : (fitting (sum_fits (dy (negsuc 271828182845904523535) 96) (dy (pos 31415926535897932384) 64))
    (dyadic_sum (dy (negsuc 271828182845904523535) 96) (dy (pos 31415926535897932384) 64))
    ≡ Some (dy (pos 134930376773392006737394790128) 96)) ×
    (fitting (difference_fits (dy (negsuc 271828182845904523535) 96) (dy (pos 31415926535897932384) 64))
    (dyadic_difference (dy (negsuc 271828182845904523535) 96) (dy (pos 31415926535897932384) 64))
    ≡ Some (dy (negsuc 134930377317048372429203837199) 96)) ×
    (fitting (product_fits (dy (negsuc 271828182845904523535) 96) (dy (pos 31415926535897932384) 64))
    (dyadic_product (dy (negsuc 271828182845904523535) 96) (dy (pos 31415926535897932384) 64)) ≡ None) ×
    (is_dyadic_at_most (dy (negsuc 271828182845904523535) 96) (dy (pos 31415926535897932384) 64) ≡ true)
unfolding dyadic_sum dyadic_difference dyadic_product sum_fits difference_fits product_fits fits_128 dyadic_value over
    is_at_most
operation_39 = (refl, refl, refl, refl)
