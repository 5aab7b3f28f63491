-- The coefficients of a combination of the variables, as formulas come to them.
use Rattle.std.specs.Prelude.{◌≡◌, ℕ, ◌+◌, ◌<◌, List, Option, None}
use Rattle.fx_rational.specs.Dyadic.{Dyadic, zero_dyadic}
use Rattle.fx_model.specs.Tree.{at}
use Rattle.fx_inequalities.specs.Affine.{unit_coef}
use Rattle.fx_inequalities.specs.Formula.{Formula, Num}
use Rattle.fx_formulas.specs.Judging.{Forms}
use Rattle.fx_formulas.specs.Places.{IsShort}

-- the first n numbers are what these formulas come to, which are short
pub record AreFormed (xs : List (Option Dyadic)) (n : ℕ) (c : ℕ → Formula) : Type 0 where
  pub each : (j : ℕ) → j < n → Forms (at None xs j) (c j)
  pub short : (j : ℕ) → j < n → IsShort 192 (c j)

-- behind the first i, the numbers are what these k formulas come to
abbrev pub AreLeft : List (Option Dyadic) → ℕ → ℕ → (ℕ → Formula) → Type 0
AreLeft xs i k c = (j : ℕ) → j < k → Forms (at None xs (i + j)) (c j)

-- 1 at place 95 and 0 elsewhere
abbrev pub AreUnits : List Dyadic → Type 0
AreUnits xs = (j : ℕ) → Num (at zero_dyadic xs j) ≡ unit_coef 95 j
