-- Coefficients one behind the other.
use Rattle.std.proofs.Common.{◌≡◌, ℕ, zero, suc, ◌+◌, ◌<◌, true, false, ◌&&◌, List, [], ◌∷◌, length, length-append, Result, Ok, Err, refl, sym, subst, ap, ◌∙◌, arith, true≢false}
use Rattle.fx_rational.specs.Dyadic.{Dyadic}
use Rattle.fx_inequalities.specs.Formula.{Formula, formed, formula_fits}
use Rattle.std.specs.Result.{IsErrAnd}
use Rattle.std.proofs.lemmas.Bool.{and_parts, false_from_ne_true}
use Rattle.fx_template.specs.declared.affine.Affine.{Affine}
use Rattle.fx_template.specs.declared.affine.AffineFault.{AffineFault}
use Rattle.fx_template.specs.declared.affine.AffineFault.TheVariants.{Beyond, Memory}
use Rattle.fx_template.specs.AffineAnswers.{IsAffineFault, IsFormed}
use Rattle.fx_template.proofs.Indexes.{of_each}
use Rattle.fx_template.specs.Combining.{FormulaForm, coefs_fit, form_fits, formed_coefs}

-- the first j fit, and these are what they come to
pub record IsFront (out : List Dyadic) (j : ℕ) (c : ℕ → Formula) : Type 0 where
  pub fits : coefs_fit j c ≡ true
  pub formed : out ≡ formed_coefs j c

-- so many of them
pub formed_length : (j : ℕ) (c : ℕ → Formula) → length (formed_coefs j c) ≡ j
formed_length zero c = refl
formed_length (suc j) c =
    let before = formed_length j c in let h = length-append (formed_coefs j c) (formed (c j) ∷ []) in omega arith

-- where all fit, each does
each_fits : (n j : ℕ) (c : ℕ → Formula) → coefs_fit n c ≡ true → j < n → formula_fits (c j) ≡ true
each_fits zero j c all below = absurd (omega (arith, below))
each_fits (suc n) j c all below =
    let parts = and_parts (coefs_fit n c) (formula_fits (c n)) all in
    of_each (λ k. formula_fits (c k) ≡ true) n j below (each_fits n j c parts.0) parts.1

-- one coefficient that doesn't fit, or for which there is no memory
pub front_stop : (e : AffineFault) (out : List Dyadic) (n j : ℕ) (f : FormulaForm) → IsFront out j f.coef → j < n →
    IsAffineFault e (length out + 1) (formula_fits (f.coef j)) → IsAffineFault e n (form_fits n f)
front_stop Beyond out n j f front below h =
    false_from_ne_true (form_fits n f)
    (λ all. true≢false (sym
    (each_fits n j f.coef (and_parts (coefs_fit n f.coef) (formula_fits f.rest.lo &&
    formula_fits f.rest.hi) all).0 below) ∙ h))
front_stop Memory out n j f front below h =
    let so_many : length out ≡ j = ap length front.formed ∙ formed_length j f.coef in omega arith

-- the loop ends with the fault
pub fault_told : (r : Result Affine AffineFault) (e : AffineFault) (out : List Dyadic) (n j : ℕ) (f : FormulaForm) →
    IsErrAnd r (λ y. y ≡ e) → IsFront out j f.coef → j < n →
    IsAffineFault e (length out + 1) (formula_fits (f.coef j)) → IsFormed r n f
fault_told (Ok a) e out n j f h front below fault = absurd h
fault_told (Err y) e out n j f h front below fault =
    subst (λ (d : AffineFault). IsAffineFault d n (form_fits n f)) (sym h) (front_stop e out n j f front below fault)
