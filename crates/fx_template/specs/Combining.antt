-- Sums, multiples and products of affine forms, as formulas; what these come to, and when all of it fits in 128 bits.
use Rattle.std.specs.Prelude.{ℕ, zero, suc, ◌+◌, ◌^◌, ◌≤◌, ◌<◌, ⊤, Bool, true, ◌&&◌, List, [], ◌∷◌, ◌++◌}
use Rattle.fx_model.specs.Tree.{at}
use Rattle.fx_rational.specs.Dyadic.{Dyadic, zero_dyadic}
use Rattle.fx_rational.specs.Interval.{Interval}
use Rattle.fx_inequalities.specs.Formula.{Formula, Num, Sum, Difference, Product, Least, Greatest, Span, span, point, span_product, formed, formula_fits}
use Rattle.fx_inequalities.specs.Certificate.{zero_interval}
use Rattle.fx_inequalities.specs.Affine.{weighted_sum}
use Rattle.fx_inequalities.specs.OperationSpans.{sum_range, product_rest}
use Rattle.fx_template.specs.AffineView.{LinearForm}

-- a form whose numbers are formulas: the coefficient of each variable, and the rest
pub record FormulaForm : Type 0 where
  pub coef : ℕ → Formula
  pub rest : Span

-- coefficient j
abbrev pub coef_in : LinearForm → ℕ → Formula
coef_in a j = Num (at zero_dyadic a.coefs j)

-- the form of a sum
abbrev pub sum_form : LinearForm → LinearForm → FormulaForm
sum_form a b = record { coef = λ j. Sum (coef_in a j) (coef_in b j); rest = sum_range (span a.rest) (span b.rest) }

-- of a product with one dyadic
abbrev pub scaled_form : LinearForm → Dyadic → FormulaForm
scaled_form a m =
    record { coef = λ j. Product (Num m) (coef_in a j); rest = span_product (point (Num m)) (span a.rest) }

-- of a product, with the ranges and the centres of its operands
abbrev pub product_form : LinearForm → LinearForm → Interval × Interval → Dyadic × Dyadic → FormulaForm
product_form a b ranges centres = let ma = Num centres.0 in let mb = Num centres.1 in record {
  coef = λ j. Sum (Product mb (coef_in a j)) (Product ma (coef_in b j));
  rest = product_rest ma mb (span ranges.0) (span ranges.1) (span a.rest) (span b.rest);
}

-- the rest and the products of coefficients and ranges, added from left to right
abbrev pub bound_form : LinearForm → ℕ → List Interval → Span
bound_form a n ranges = weighted_sum (span a.rest) n (coef_in a) (λ j. span (at zero_interval ranges j))

-- ---- what they come to, with n coefficients
abbrev pub formed_coefs : ℕ → (ℕ → Formula) → List Dyadic
formed_coefs zero c = []
formed_coefs (suc n) c = formed_coefs n c ++ formed (c n) ∷ []

abbrev pub formed_form : ℕ → FormulaForm → LinearForm
formed_form n f =
    record { coefs = formed_coefs n f.coef; rest = record { lo = formed f.rest.lo; hi = formed f.rest.hi } }

-- every mantissa fits
abbrev pub coefs_fit : ℕ → (ℕ → Formula) → Bool
coefs_fit zero c = true
coefs_fit (suc n) c = coefs_fit n c && formula_fits (c n)

abbrev pub form_fits : ℕ → FormulaForm → Bool
form_fits n f = coefs_fit n f.coef && (formula_fits f.rest.lo && formula_fits f.rest.hi)

-- ---- what is asked of exponents
-- the two of each product have a sum that a dyadic can have
abbrev pub HasNearProducts : Formula → Type 0
HasNearProducts (Num d) = ⊤
HasNearProducts (Sum a b) = HasNearProducts a × HasNearProducts b
HasNearProducts (Difference a b) = HasNearProducts a × HasNearProducts b
HasNearProducts (Product a b) = HasNearProducts a × HasNearProducts b × ((formed a).e + (formed b).e ≤ 2 ^ 20)
HasNearProducts (Least a b) = HasNearProducts a × HasNearProducts b
HasNearProducts (Greatest a b) = HasNearProducts a × HasNearProducts b

-- at both ends
pub record HasNearSpan (s : Span) : Type 0 where
  pub lo : HasNearProducts s.lo
  pub hi : HasNearProducts s.hi

-- in each of n coefficients and in the rest
pub record HasNearForm (n : ℕ) (f : FormulaForm) : Type 0 where
  pub coefs : (j : ℕ) → j < n → HasNearProducts (f.coef j)
  pub rest : HasNearSpan f.rest
