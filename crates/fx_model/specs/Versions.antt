-- A program says the version of its text, and nothing that it does goes by that.
use Rattle.std.specs.Prelude.{◌≡◌, List}
use Rattle.fx_rational.specs.Rational.{Rational}
use Rattle.fx_model.specs.Machine.{Program, machine_run}
use Rattle.fx_model.specs.LawfulProgram.{IsLawfulProgram}

-- the same program, of the second version
abbrev pub second_version : Program → Program
second_version p = record p { version = 2 }

-- it runs as the program does, and is lawful where that is
pub record VersionLaw : Type 0 where
  pub run : (p : Program) (rows : List (List Rational)) → machine_run (second_version p) rows ≡ machine_run p rows
  pub lawful : (p : Program) → IsLawfulProgram p → IsLawfulProgram (second_version p)
