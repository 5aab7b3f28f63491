-- The form of a sum and of a product is what the condition Form compares a node's own with.
use Rattle.std.proofs.Common.{◌≡◌, ℕ, ℤ, ap₂, Some, refl, ◌∙◌, List}
use Rattle.fx_model.specs.Nodes.{Add, Mul}
use Rattle.fx_model.specs.Machine as machine
use Rattle.fx_rational.specs.Interval.{Interval}
use Rattle.fx_inequalities.specs.Formula.{Formula, Num, Sum, Product, Span, span, span_sum}
use Rattle.fx_inequalities.specs.Certificate.{Form, NodeLine}
use Rattle.fx_inequalities.specs.Affine.{Affine, affine_at, of_line, range_at}
use Rattle.fx_inequalities.specs.OperationSpans.{product_rest}
use Rattle.fx_inequalities.specs.NodeConditions.{operation_form}
use Rattle.fx_template.specs.AffineView.{LinearForm}
use Rattle.fx_template.specs.Combining.{FormulaForm, coef_in, sum_form, product_form}

-- a node's form has these coefficients and this rest
pub record IsLinear (p : Affine) (a : LinearForm) : Type 0 where
  pub coef : (j : ℕ) → p.coef j ≡ coef_in a j
  pub rest : p.rest ≡ span a.rest

-- formulas of the same numbers
pub record AreSame (p : Affine) (f : FormulaForm) : Type 0 where
  pub coef : (j : ℕ) → p.coef j ≡ f.coef j
  pub rest : p.rest ≡ f.rest

-- a written form is one
pub written_is_linear : (l : NodeLine) (form : Form) →
    IsLinear (of_line l (Some form)) (record { coefs = form.coefs; rest = form.rest })
written_is_linear l form = record { coef = λ j. refl; rest = refl }

pub sum_agrees : (v : ℕ) (ls : List NodeLine) (x y x' y' : ℕ) (sa sb f : ℤ) (form : Form) (a b : LinearForm) →
    IsLinear (affine_at v ls x) a → IsLinear (affine_at v ls y) b →
    AreSame (operation_form v ls (Add x y) (machine.Add x' y' sa sb) f form) (sum_form a b)
sum_agrees v ls x y x' y' sa sb f form a b h k = record {
  coef = λ j. ap₂ Sum (h.coef j) (k.coef j);
  rest = ap₂ span_sum h.rest k.rest;
}

pub product_agrees : (r : machine.Round) (v : ℕ) (ls : List NodeLine) (x y x' y' s : ℕ) (f : ℤ) (form : Form)
    (a b : LinearForm) (ga gb : Interval) → IsLinear (affine_at v ls x) a → IsLinear (affine_at v ls y) b →
    range_at ls x ≡ span ga → range_at ls y ≡ span gb →
    AreSame (operation_form v ls (Mul x y) (machine.Mul r x' y' s) f form)
    (product_form a b (ga, gb) (form.centre_a, form.centre_b))
product_agrees r v ls x y x' y' s f form a b ga gb h k e i = record {
  coef =
      λ j. ap₂ (λ (p q : Formula). Sum (Product (Num form.centre_b) p) (Product (Num form.centre_a) q)) (h.coef j)
      (k.coef j);
  rest =
      ap₂ (λ (r t : Span). product_rest (Num form.centre_a) (Num form.centre_b) (range_at ls x)
      (range_at ls y) r t) h.rest k.rest
      ∙ ap₂ (λ (g t : Span). product_rest (Num form.centre_a) (Num form.centre_b) g t (span a.rest) (span b.rest)) e i;
}
