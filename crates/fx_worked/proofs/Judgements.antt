-- Worked comparisons, of each judgement one on either side of its edge: a wrong judgement here is refused.
use Rattle.std.specs.Prelude.{◌≡◌, ℕ, ℤ, pos, negsuc, [], ◌∷◌, refl}
use Rattle.fx_rational.specs.Gcd.{gcd}
use Rattle.fx_rational.specs.Rational.{over, plus, negative, minus, times, lowest, is_at_most, is_positive, is_negative}
use Rattle.fx_rational.specs.Dyadic.{dyadic_value, dyadic_sum, dyadic_difference, dyadic_product, fits_128, sum_fits, difference_fits, product_fits}
use Rattle.fx_inequalities.specs.Formula.{Span, Num, Sum, formula_value, formed, formula_fits, span, span_sum}
use Rattle.fx_inequalities.specs.Claim.{BelowFraction, Clear}
use Rattle.fx_inequalities.specs.NodeConditions.{quotient_claims}
use Rattle.fx_formulas.specs.declared.judgement.Judgement.TheVariants.{Holds, Fails, Beyond}
use Rattle.fx_formulas.specs.Judging.{judged}

-- from a / 2^b to c / 2^e
abbrev sp : ℤ → ℕ → ℤ → ℕ → Span
sp a b c e = span (record { lo = record { m = a; e = b }; hi = record { m = c; e = e } })

-- ---- whether each quotient of what lies in one by what lies in another lies in a third

quotient_1 : judged (quotient_claims (sp (pos 1) 0 (pos 1) 0) (sp (pos 1) 0 (pos 2) 0) (sp (pos 1) 1 (pos 1) 0)) ≡ Holds
unfolding over plus negative minus times is_at_most is_positive is_negative dyadic_value dyadic_sum dyadic_difference
    dyadic_product fits_128 sum_fits difference_fits product_fits formula_value formed formula_fits
quotient_1 = refl

quotient_2 : judged (quotient_claims (sp (pos 1) 0 (pos 1) 0) (sp (pos 1) 0 (pos 2) 0) (sp (pos 1) 1 (pos 3) 2)) ≡ Fails
unfolding over plus negative minus times is_at_most is_positive is_negative dyadic_value dyadic_sum dyadic_difference
    dyadic_product fits_128 sum_fits difference_fits product_fits formula_value formed formula_fits
quotient_2 = refl

quotient_3 : judged (quotient_claims (sp (pos 1) 0 (pos 1) 0) (sp (pos 1) 0 (pos 2) 0) (sp (pos 3) 2 (pos 1) 0)) ≡ Fails
unfolding over plus negative minus times is_at_most is_positive is_negative dyadic_value dyadic_sum dyadic_difference
    dyadic_product fits_128 sum_fits difference_fits product_fits formula_value formed formula_fits
quotient_3 = refl

quotient_4 : judged (quotient_claims (sp (pos 1) 0 (pos 1) 0) (sp (negsuc 1) 0 (negsuc 0) 0)
    (sp (negsuc 0) 0 (negsuc 0) 1)) ≡ Holds
unfolding over plus negative minus times is_at_most is_positive is_negative dyadic_value dyadic_sum dyadic_difference
    dyadic_product fits_128 sum_fits difference_fits product_fits formula_value formed formula_fits
quotient_4 = refl

quotient_5 : judged (quotient_claims (sp (pos 1) 0 (pos 1) 0) (sp (negsuc 1) 0 (negsuc 0) 0) (sp (pos 1) 1 (pos 1) 0))
    ≡ Fails
unfolding over plus negative minus times is_at_most is_positive is_negative dyadic_value dyadic_sum dyadic_difference
    dyadic_product fits_128 sum_fits difference_fits product_fits formula_value formed formula_fits
quotient_5 = refl

quotient_6 : judged (quotient_claims (sp (negsuc 0) 0 (pos 1) 0) (sp (negsuc 1) 0 (negsuc 0) 0)
    (sp (negsuc 0) 0 (pos 1) 0)) ≡ Holds
unfolding over plus negative minus times is_at_most is_positive is_negative dyadic_value dyadic_sum dyadic_difference
    dyadic_product fits_128 sum_fits difference_fits product_fits formula_value formed formula_fits
quotient_6 = refl

quotient_7 : judged (quotient_claims (sp (negsuc 0) 0 (pos 1) 0) (sp (pos 1) 1 (pos 1) 0) (sp (negsuc 1) 0 (pos 15) 3))
    ≡ Fails
unfolding over plus negative minus times is_at_most is_positive is_negative dyadic_value dyadic_sum dyadic_difference
    dyadic_product fits_128 sum_fits difference_fits product_fits formula_value formed formula_fits
quotient_7 = refl

quotient_8 : judged (quotient_claims (sp (pos 0) 0 (pos 1) 0) (sp (pos 1) 0 (pos 2) 0)
    (sp (pos 1) 0 (pos 85070591730234615865843651857942052864) 0)) ≡ Beyond
unfolding over plus negative minus times is_at_most is_positive is_negative dyadic_value dyadic_sum dyadic_difference
    dyadic_product fits_128 sum_fits difference_fits product_fits formula_value formed formula_fits
quotient_8 = refl

-- ---- whether the exact divisor and the machine's lie on one side of zero

divisor_1 : judged (Clear (sp (pos 15) 14 (pos 1) 0) (span_sum (sp (pos 15) 14 (pos 1) 0) (sp (pos 0) 0 (pos 17) 14))
    ∷ []) ≡ Holds
unfolding over plus negative minus times is_at_most is_positive is_negative dyadic_value dyadic_sum dyadic_difference
    dyadic_product fits_128 sum_fits difference_fits product_fits formula_value formed formula_fits
divisor_1 = refl

divisor_2 : judged (Clear (sp (pos 15) 14 (pos 1) 0) (span_sum (sp (pos 15) 14 (pos 1) 0) (sp (negsuc 0) 6 (pos 17) 14))
    ∷ []) ≡ Fails
unfolding over plus negative minus times is_at_most is_positive is_negative dyadic_value dyadic_sum dyadic_difference
    dyadic_product fits_128 sum_fits difference_fits product_fits formula_value formed formula_fits
divisor_2 = refl

divisor_3 : judged (Clear (sp (negsuc 0) 0 (negsuc 14) 14)
    (span_sum (sp (negsuc 0) 0 (negsuc 14) 14) (sp (negsuc 0) 6 (pos 0) 0)) ∷ []) ≡ Holds
unfolding over plus negative minus times is_at_most is_positive is_negative dyadic_value dyadic_sum dyadic_difference
    dyadic_product fits_128 sum_fits difference_fits product_fits formula_value formed formula_fits
divisor_3 = refl

divisor_4 : judged (Clear (sp (negsuc 0) 0 (negsuc 14) 14)
    (span_sum (sp (negsuc 0) 0 (negsuc 14) 14) (sp (pos 0) 0 (pos 15) 14)) ∷ []) ≡ Fails
unfolding over plus negative minus times is_at_most is_positive is_negative dyadic_value dyadic_sum dyadic_difference
    dyadic_product fits_128 sum_fits difference_fits product_fits formula_value formed formula_fits
divisor_4 = refl

divisor_5 : judged (Clear (sp (negsuc 0) 0 (pos 1) 0) (span_sum (sp (negsuc 0) 0 (pos 1) 0) (sp (pos 0) 0 (pos 0) 0))
    ∷ []) ≡ Fails
unfolding over plus negative minus times is_at_most is_positive is_negative dyadic_value dyadic_sum dyadic_difference
    dyadic_product fits_128 sum_fits difference_fits product_fits formula_value formed formula_fits
divisor_5 = refl

divisor_6 : judged (Clear
    (sp (pos 85070591730234615865843651857942052864) 0 (pos 85070591730234615865843651857942052864) 0)
    (span_sum (sp (pos 85070591730234615865843651857942052864) 0 (pos 85070591730234615865843651857942052864) 0)
    (sp (pos 0) 0 (pos 85070591730234615865843651857942052864) 0)) ∷ []) ≡ Beyond
unfolding over plus negative minus times is_at_most is_positive is_negative dyadic_value dyadic_sum dyadic_difference
    dyadic_product fits_128 sum_fits difference_fits product_fits formula_value formed formula_fits
divisor_6 = refl

-- ---- whether a sum is at most a decimal

below_1 : judged (BelowFraction (Sum (Num (record { m = negsuc 1; e = 3 })) (Num (record { m = pos 1; e = 2 })))
    (record { top = pos 1; less = 9 }) ∷ []) ≡ Holds
unfolding gcd lowest over plus negative minus times is_at_most is_positive is_negative dyadic_value dyadic_sum
    dyadic_difference dyadic_product fits_128 sum_fits difference_fits product_fits formula_value formed formula_fits
below_1 = refl

below_2 : judged (BelowFraction (Sum (Num (record { m = negsuc 0; e = 3 })) (Num (record { m = pos 1; e = 2 })))
    (record { top = pos 1; less = 9 }) ∷ []) ≡ Fails
unfolding gcd lowest over plus negative minus times is_at_most is_positive is_negative dyadic_value dyadic_sum
    dyadic_difference dyadic_product fits_128 sum_fits difference_fits product_fits formula_value formed formula_fits
below_2 = refl

below_3 : judged (BelowFraction (Sum (Num (record { m = pos 1; e = 3 })) (Num (record { m = pos 0; e = 0 })))
    (record { top = pos 1; less = 7 }) ∷ []) ≡ Holds
unfolding gcd lowest over plus negative minus times is_at_most is_positive is_negative dyadic_value dyadic_sum
    dyadic_difference dyadic_product fits_128 sum_fits difference_fits product_fits formula_value formed formula_fits
below_3 = refl

below_4 : judged (BelowFraction
    (Sum (Num (record { m = pos 85070591730234615865843651857942052864; e = 0 }))
    (Num (record { m = pos 85070591730234615865843651857942052864; e = 0 }))) (record {
      top = pos 1;
      less = 0;
    }) ∷ []) ≡ Beyond
unfolding gcd lowest over plus negative minus times is_at_most is_positive is_negative dyadic_value dyadic_sum
    dyadic_difference dyadic_product fits_128 sum_fits difference_fits product_fits formula_value formed formula_fits
below_4 = refl

below_5 : judged (BelowFraction
    (Sum (Num (record { m = pos 85070591730234615865843651857942052864; e = 0 })) (Num (record { m = pos 0; e = 0 })))
    (record { top = pos 3; less = 1 }) ∷ []) ≡ Beyond
unfolding gcd lowest over plus negative minus times is_at_most is_positive is_negative dyadic_value dyadic_sum
    dyadic_difference dyadic_product fits_128 sum_fits difference_fits product_fits formula_value formed formula_fits
below_5 = refl
