-- What a call with affine forms answers.
use Rattle.std.specs.Prelude.{◌≡◌, ℕ, ◌<◌, Bool, false, IsTrue, Result, MatchResult}
use Rattle.fx_template.specs.declared.affine.Affine.{Affine}
use Rattle.fx_template.specs.declared.affine.AffineFault.{AffineFault}
use Rattle.fx_template.specs.declared.affine.AffineFault.TheVariants.{Beyond, Memory}
use Rattle.fx_template.specs.AffineView.{linear_form}
use Rattle.fx_template.specs.Combining.{FormulaForm, form_fits, formed_form}

-- of n coefficients: Beyond where something doesn't fit; want of memory only with more than sixteen, and then at any
-- time
abbrev pub IsAffineFault : AffineFault → ℕ → Bool → Type 0
IsAffineFault Beyond n all_fit = all_fit ≡ false
IsAffineFault Memory n all_fit = 16 < n

-- the form that n coefficients and a rest come to, where every mantissa fits
abbrev pub IsFormed : Result Affine AffineFault → ℕ → FormulaForm → Type 0
IsFormed result n f =
    MatchResult result (λ a. IsTrue (form_fits n f) ×
    (linear_form a ≡ formed_form n f)) (λ e. IsAffineFault e n (form_fits n f))
