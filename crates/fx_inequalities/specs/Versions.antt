-- A checker doesn't look at the version of a program's text.
use Rattle.std.specs.Prelude.{◌≡◌, ℕ}
use Rattle.fx_model.specs.Function.{Function}
use Rattle.fx_model.specs.Machine.{Program}
use Rattle.fx_model.specs.Versions.{second_version}
use Rattle.fx_inequalities.specs.Certificate.{Certificate}
use Rattle.fx_inequalities.specs.Rewriting.{Rewrites}
use Rattle.fx_inequalities.specs.Accepted.{first_fault, certified_bound}

-- a program's second version has the first fault and the bounds of the program
pub record JudgedVersionLaw : Type 0 where
  pub fault : (rewrite : Rewrites) (fn : Function) (p : Program) (cert : Certificate) →
      first_fault rewrite fn (second_version p) cert ≡ first_fault rewrite fn p cert
  pub bound : (p : Program) (cert : Certificate) (j : ℕ) →
      certified_bound (second_version p) cert j ≡ certified_bound p cert j
