-- How many binary places the numbers of a form have at most.
use Rattle.std.specs.Prelude.{ℕ}
use Rattle.fx_inequalities.specs.Formula.{span}
use Rattle.fx_formulas.specs.Places.{IsShort, IsShortSpan}
use Rattle.fx_template.specs.AffineView.{LinearForm}
use Rattle.fx_template.specs.Combining.{coef_in}

-- at most n places, in each coefficient and in the rest
pub record IsShortLinear (n : ℕ) (a : LinearForm) : Type 0 where
  pub coefs : (j : ℕ) → IsShort n (coef_in a j)
  pub rest : IsShortSpan n (span a.rest)
