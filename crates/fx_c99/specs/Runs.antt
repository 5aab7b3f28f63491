-- What a C text does.
use Rattle.std.specs.Prelude.{◌≡◌, ℕ, ℤ, List, length, Option, Some}
use Rattle.std.specs.Option.{option_and_then}
use Rattle.fx_rational.specs.Rational.{Rational}
use Rattle.fx_model.specs.Function.{Step, Run, run_of}
use Rattle.fx_model.specs.Machine.{Program, words_of, machine_step, start_words}
use Rattle.fx_statements.specs.OfProgram.{input_words}
use Rattle.fx_statements.specs.Statements.{Routine}
use Rattle.fx_statements.specs.Widths.{FitWidths}
use Rattle.fx_c99.specs.CText.{c_text}
use Rattle.fx_c99.specs.CMeaning.{c_step, c_reset}
use Rattle.fx_c99.specs.CWritable.{IsCWritable}
use Rattle.fx_c99.specs.OfProgram.{c_routine_of}

-- what the step of a program's text gives, row by row, each from the states that the one before it left, the first from
-- those that the reset wrote over s
abbrev pub c_text_run : Program → List ℕ → List (List Rational) → List ℤ → Option (Run ℤ)
c_text_run p ns rows s = option_and_then
    (run_of (λ g z. c_step (c_routine_of p ns) z (input_words p.codes g)) rows)
    (c_reset p.width 0 (start_words p.codes) s)

-- what a text does, from the states s and the inputs x: what its statements do; and the words that its reset writes
pub record Does (text : List ℕ) (s x : List ℤ) (starts : List ℤ) (d : Option (Step ℤ)) : Type 0 where
  pub routine : Routine
  pub writable : IsCWritable routine starts
  pub written : text ≡ c_text routine starts
  pub step : c_step routine s x ≡ d

-- it does the machine's step wherever that isn't stuck and each word lies in its width: nothing in it is undefined
pub record DoesSteps (p : Program) (ns text : List ℕ) : Type 0 where
  pub does : (g : List Rational) (z ws : List ℤ) → length z ≡ p.states → words_of p g z ≡ Some ws → FitWidths ns ws
      → Does text z (input_words p.codes g) (start_words p.codes) (machine_step p g z)
