-- A whole number raised by places, as its formula comes to it.
use Rattle.std.proofs.Common.{◌≡◌, zero, suc, true, Some, None, ℤ, pos, negsuc, refl, ap, ◌∙◌}
use Rattle.fx_rational.specs.Dyadic.{Dyadic, dyadic, fits_128}
use Rattle.fx_inequalities.specs.Formula.{Num, formed, formula_fits}
use Rattle.fx_formulas.specs.Judging.{Forms}

plain_zero : (z : ℤ) → dyadic z 0 ≡ (record { m = z; e = 0 })
plain_zero (pos zero) = refl
plain_zero (pos (suc n)) = refl
plain_zero (negsuc n) = refl

pub raised_some : (x : Dyadic) (m z : ℤ) → fits_128 z ≡ true → m ≡ z → x ≡ dyadic m 0 →
    Forms (Some x) (Num (record { m = z; e = 0 }))
unfolding formula_fits formed
raised_some x m z h e is = (h, is ∙ ap (λ (y : ℤ). dyadic y 0) e ∙ plain_zero z)

pub raised_none : (z : ℤ) → (fits_128 z ≡ true → ⊥) → Forms None (Num (record { m = z; e = 0 }))
unfolding formula_fits
raised_none z h = h
