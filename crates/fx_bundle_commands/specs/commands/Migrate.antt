-- What `migrate FILE` prints: an accepted bundle as one of the second version.
use Rattle.std.specs.Prelude.{◌≡◌, ℕ, List}
use Rattle.fx_rational.specs.Rational.{Rational}
use Rattle.fx_model.specs.Function.{Function}
use Rattle.fx_model.specs.Machine.{machine_run}
use Rattle.fx_model.specs.Versions.{second_version}
use Rattle.fx_inequalities.specs.Accepted.{certified_bound}
use Rattle.fx_cert_text.specs.BundleView.{Parts, IsLawfulBundle}
use Rattle.fx_bundle_commands.specs.Opening.{IsAcceptedAs}

-- the bundle with the second version of its program, and all else as it is
abbrev pub migrated : Parts → Parts
migrated b = record b { program = second_version b.program }

-- it is a bundle that is accepted for the same function, runs as before, and has the bounds that it had; of the second
-- version it is the bundle itself
pub record IsMigrated (b : Parts) (fn : Function) : Type 0 where
  pub lawful : IsLawfulBundle (migrated b)
  pub accepted : IsAcceptedAs (migrated b) fn
  pub run : (rows : List (List Rational)) → machine_run (migrated b).program rows ≡ machine_run b.program rows
  pub bound : (j : ℕ) → certified_bound (migrated b).program (migrated b).certificate j
      ≡ certified_bound b.program b.certificate j
  pub itself : b.program.version ≡ 2 → migrated b ≡ b
