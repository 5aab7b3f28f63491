-- Worked conditions of nodes, by evaluation: a wrong judgement here is refused.
use Rattle.std.specs.Prelude.{◌≡◌, ◌^◌, ℕ, ℤ, pos, negsuc, [], ◌∷◌, refl}
use Rattle.fx_rational.specs.Gcd.{gcd}
use Rattle.fx_rational.specs.Rational.{Rational, over, plus, negative, is_at_most, lowest}
use Rattle.fx_rational.specs.Dyadic.{dyadic_value, dyadic_sum, fits_128, sum_fits}
use Rattle.fx_rational.specs.Interval.{Interval}
use Rattle.fx_inequalities.specs.Formula.{Num, Sum, formula_value, formed, formula_fits, span, span_sum, roundoff_at, unit_at}
use Rattle.fx_inequalities.specs.Claim.{BelowFraction, AboveFraction, inside}
use Rattle.fx_inequalities.specs.NodeConditions.{word_claims}
use Rattle.fx_formulas.specs.declared.judgement.Judgement.{Judgement}
use Rattle.fx_formulas.specs.declared.judgement.Judgement.TheVariants.{Holds, Fails, Beyond}
use Rattle.fx_formulas.specs.Judging.{judged}

-- from a / 2^b to c / 2^e
abbrev iv : ℤ → ℕ → ℤ → ℕ → Interval
iv a b c e = record { lo = record { m = a; e = b }; hi = record { m = c; e = e } }

abbrev none : Interval
none = iv (pos 0) 0 (pos 0) 0

-- ---- copies of an operand without error
abbrev copied : ℤ → ℤ → Interval → Judgement
copied f s h = judged (inside (span_sum (span none) (roundoff_at f s)) (span h))

-- a shift to the right at point 3 loses an eighth
right_holds : copied (pos 3) (pos 2) (iv (negsuc 0) 3 (pos 0) 0) ≡ Holds
unfolding over plus is_at_most dyadic_value dyadic_sum fits_128 sum_fits formula_value formed formula_fits
right_holds = refl

right_fails : copied (pos 3) (pos 2) (iv (negsuc 0) 4 (pos 0) 0) ≡ Fails
unfolding over plus is_at_most dyadic_value dyadic_sum fits_128 sum_fits formula_value formed formula_fits
right_fails = refl

-- one to the left loses nothing
left_holds : copied (pos 3) (negsuc 1) none ≡ Holds
unfolding over plus is_at_most dyadic_value dyadic_sum fits_128 sum_fits formula_value formed formula_fits
left_holds = refl

-- at point -2 one to the right loses 4
coarse_holds : copied (negsuc 1) (pos 1) (iv (negsuc 3) 0 (pos 0) 0) ≡ Holds
unfolding over plus is_at_most dyadic_value dyadic_sum fits_128 sum_fits formula_value formed formula_fits
coarse_holds = refl

coarse_fails : copied (negsuc 1) (pos 1) (iv (negsuc 2) 0 (pos 0) 0) ≡ Fails
unfolding over plus is_at_most dyadic_value dyadic_sum fits_128 sum_fits formula_value formed formula_fits
coarse_fails = refl

-- ---- words of 64 bits at the lowest point fit in 128 bits; a sum of 2^127 doesn't, whatever the lower ends say
abbrev lowest_point : ℤ
lowest_point = negsuc 63

word_holds : judged (word_claims 64 lowest_point (span none) (span none)) ≡ Holds
unfolding over plus is_at_most dyadic_value dyadic_sum fits_128 sum_fits formula_value formed formula_fits
word_holds = refl

word_beyond : judged (word_claims 64 lowest_point (span (iv (pos 0) 0 (pos (2 ^ 126)) 0))
    (span (iv (pos 0) 0 (pos (2 ^ 126)) 0))) ≡ Beyond
unfolding over plus is_at_most dyadic_value dyadic_sum fits_128 sum_fits formula_value formed formula_fits
word_beyond = refl

-- ---- an input that is given to within 1/10, read at point 2: its error is from -7/20 to 1/10
abbrev tenth : Rational
tenth = record { top = pos 1; less = 9 }

abbrev given : Interval → Judgement
given h =
    judged (BelowFraction (Sum (Num h.lo) (unit_at (pos 2))) (negative tenth) ∷ AboveFraction tenth (Num h.hi) ∷ [])

given_holds : given (iv (negsuc 2) 3 (pos 1) 3) ≡ Holds
unfolding gcd over plus negative is_at_most lowest dyadic_value dyadic_sum fits_128 sum_fits formula_value formed
    formula_fits
given_holds = refl

-- -1/4 is enough without the given error alone
given_fails : given (iv (negsuc 0) 2 (pos 1) 3) ≡ Fails
unfolding gcd over plus negative is_at_most lowest dyadic_value dyadic_sum fits_128 sum_fits formula_value formed
    formula_fits
given_fails = refl
