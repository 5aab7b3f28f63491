-- Worked forms, with numbers from fractions of unbounded whole numbers: a wrong formula here is refused.
use Rattle.std.specs.Prelude.{◌≡◌, ◌^◌, ℕ, ℤ, pos, negsuc, List, [], ◌∷◌, true, false, refl}
use Rattle.fx_rational.specs.Rational.{over, is_at_most}
use Rattle.fx_rational.specs.Dyadic.{Dyadic, zero_dyadic, dyadic_value, dyadic_sum, dyadic_difference, dyadic_product, least, greatest, fits_128, sum_fits, product_fits}
use Rattle.fx_rational.specs.Interval.{Interval}
use Rattle.fx_inequalities.specs.Formula.{formed, formula_fits, Span}
use Rattle.fx_inequalities.specs.Certificate.{zero_interval}
use Rattle.fx_template.specs.AffineView.{LinearForm}
use Rattle.fx_template.specs.Combining.{sum_form, scaled_form, product_form, bound_form, formed_form, form_fits}

abbrev dy : ℤ → ℕ → Dyadic
dy m e = record { m = m; e = e }

abbrev iv : Dyadic → Dyadic → Interval
iv a b = record { lo = a; hi = b }

abbrev lf : List Dyadic → Interval → LinearForm
lf cs i = record { coefs = cs; rest = i }

-- 3/2 x - y + [-1/8, 1/4] and 1/4 x + [0, 1/8]
abbrev first : LinearForm
first = lf (dy (pos 3) 1 ∷ dy (negsuc 0) 0 ∷ []) (iv (dy (negsuc 0) 3) (dy (pos 1) 2))

abbrev second : LinearForm
second = lf (dy (pos 1) 2 ∷ zero_dyadic ∷ []) (iv zero_dyadic (dy (pos 1) 3))

-- 7/4 x - y + [-1/8, 3/8]
added : formed_form 2 (sum_form first second)
    ≡ lf (dy (pos 7) 2 ∷ dy (negsuc 0) 0 ∷ []) (iv (dy (negsuc 0) 3) (dy (pos 3) 3))
unfolding formed dyadic_sum
added = refl

-- times -3/2: the rest's ends change places
scaled : formed_form 2 (scaled_form first (dy (negsuc 2) 1))
    ≡ lf (dy (negsuc 8) 2 ∷ dy (pos 3) 1 ∷ []) (iv (dy (negsuc 2) 3) (dy (pos 3) 4))
unfolding formed dyadic_product least greatest dyadic_value over is_at_most
scaled = refl

-- about 1/2 and 3/4, in [-5/2, 5/2] and [1/4, 3/2]
multiplied : formed_form 2
    (product_form first second (iv (dy (negsuc 4) 1) (dy (pos 5) 1), iv (dy (pos 1) 2) (dy (pos 3) 1)) (
      dy (pos 1) 1,
      dy (pos 3) 2,
    ))
    ≡ lf (dy (pos 10) 3 ∷ dy (negsuc 2) 2 ∷ []) (iv (dy (negsuc 86) 5) (dy (pos 22) 4))
unfolding formed dyadic_sum dyadic_difference dyadic_product least greatest dyadic_value over is_at_most
multiplied = refl

-- x in [-1, 1] and y in [0, 3/4]
abbrev bounded : Span
bounded = bound_form first 2 (iv (dy (negsuc 0) 0) (dy (pos 1) 0) ∷ iv zero_dyadic (dy (pos 3) 2) ∷ [])

bounded_below : formed bounded.lo ≡ dy (negsuc 18) 3
unfolding formed dyadic_sum dyadic_product least greatest dyadic_value over is_at_most
bounded_below = refl

bounded_above : formed bounded.hi ≡ dy (pos 7) 2
unfolding formed dyadic_sum dyadic_product least greatest dyadic_value over is_at_most
bounded_above = refl

-- ---- what fits: 2^126 twice is one too much, and once, at one more place, is aligned out of 128 bits
abbrev one : Dyadic → LinearForm
one d = lf (d ∷ []) zero_interval

twice_too_much : form_fits 1 (sum_form (one (dy (pos (2 ^ 126)) 0)) (one (dy (pos (2 ^ 126)) 0))) ≡ false
unfolding formed formula_fits dyadic_sum fits_128 sum_fits
twice_too_much = refl

aligned_too_far : form_fits 1 (sum_form (one (dy (pos (2 ^ 126)) 0)) (one (dy (pos 1) 1))) ≡ false
unfolding formed formula_fits dyadic_sum fits_128 sum_fits
aligned_too_far = refl

once_fits : form_fits 1 (sum_form (one (dy (pos (2 ^ 126)) 0)) (one (dy (pos 1) 0))) ≡ true
unfolding formed formula_fits dyadic_sum fits_128 sum_fits
once_fits = refl

-- a rest alone
rest_too_much : form_fits 1
    (scaled_form (lf (dy (pos 1) 0 ∷ []) (iv zero_dyadic (dy (pos 2) 0))) (dy (pos (2 ^ 126)) 0)) ≡ false
unfolding formed formula_fits dyadic_product fits_128 product_fits
rest_too_much = refl
