-- What a demonstration is: a program that is found for its source, and run over its rows.
use Rattle.std.specs.Prelude.{◌≡◌, ℕ, List, length, None, Ok}
use Rattle.fx_grammar.specs.Sources.{parsed}
use Rattle.fx_model.specs.Function.{Function}
use Rattle.fx_model.specs.Page.{page}
use Rattle.fx_model.specs.LawfulProgram.{IsLawfulProgram}
use Rattle.fx_inequalities.specs.Accepted.{IsAccepted}
use Rattle.fx_inequalities.specs.LawfulCertificate.{IsLawfulCertificate}
use Rattle.fx_rules.specs.Steps.{rewrite}
use Rattle.fx_checker.specs.CertifiedView.{Accepted}
use Rattle.fx_rows.specs.ReadRows.{Given, read_rows}
use Rattle.fx_run.specs.Printed.{given_values, IsHonestRun}
use Rattle.fx_weight.specs.PlainClass.{obstacle_of}
use Rattle.fx_program.specs.declared.code.Round.TheVariants.{Floor}
use Rattle.fx_wanted.specs.declared.wanted.Wanted.{Wanted}
use Rattle.fx_synth.specs.Synthesis.{IsSynthesised}
use Rattle.fx_demo.specs.LastLine.{IsLastLine}
use Rattle.fx_demo.specs.Rows.{demo_rows}
use Rattle.fx_demo.specs.Source.{demo_source}

-- what a demonstration asks of its synthesis
abbrev pub demo_wanted : Wanted
demo_wanted = record { width = 32; tries = 200; round = Floor }

-- an accepted program for the source of number n, as a text spells it and a synthesis finds one; the plain plan serves
-- its function, so that its bounds are at most those of the plan
pub record IsProgram (n : ℕ) (a : Accepted) : Type 0 where
  pub meant : parsed (demo_source n) None ≡ Ok a.function
  pub served : obstacle_of 32 a.function ≡ None
  pub program : IsLawfulProgram a.program
  pub certificate : IsLawfulCertificate a.certificate
  pub accepted : IsAccepted rewrite a.function a.program a.certificate
  pub synthesised : IsSynthesised demo_wanted a.function a

-- what a function reads of the rows
abbrev pub given : Function → Given
given fn = (read_rows fn demo_rows).given

-- its machine's run over the thousand rows is honest, and prints this page
pub record IsRun (a : Accepted) (text : List ℕ) : Type 0 where
  pub good : (given a.function).bad ≡ None
  pub count : length (given a.function).rows ≡ 1000
  pub run : IsHonestRun a.function a.program a.certificate (given_values (given a.function).rows)
  pub printed : text ≡ page a.program run.run.outputs

-- a program with its run, which prints this line last
pub record IsDemonstration (n : ℕ) (a : Accepted) (last : List ℕ) : Type 0 where
  pub program : IsProgram n a
  pub text : List ℕ
  pub run : IsRun a text
  pub last_is : IsLastLine text last
