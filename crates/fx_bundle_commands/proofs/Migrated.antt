-- A bundle of the second version is accepted where the bundle was.
use Rattle.std.proofs.Common.{◌≡◌, refl, sym}
use Rattle.fx_model.specs.Function.{Function}
use Rattle.fx_model.specs.Machine.{Program}
use Rattle.fx_model.specs.Versions.{second_version}
use Rattle.fx_cert_text.specs.BundleView.{Parts, IsLawfulBundle}
use Rattle.fx_program.proofs.Versions.{second_spelled}
use Rattle.fx_bundle_commands.specs.Opening.{IsAcceptedAs}
use Rattle.fx_bundle_commands.specs.commands.Migrate.{IsMigrated}

-- a program of that version is its own second version
own_second : (p : Program) → p.version ≡ 2 → second_version p ≡ p
own_second p e = λ i. record p { version = sym e i }

pub is_migrated : (b : Parts) (fn : Function) → IsLawfulBundle b → IsAcceptedAs b fn → IsMigrated b fn
is_migrated b fn lawful accepted = record {
  lawful = record {
    source = lawful.source;
    program = second_spelled b.program lawful.program;
    certificate = lawful.certificate;
  };
  accepted = record { meant = accepted.meant; accepted = accepted.accepted };
  run = λ rows. refl;
  bound = λ j. refl;
  itself = λ e i. record b { program = own_second b.program e i };
}
