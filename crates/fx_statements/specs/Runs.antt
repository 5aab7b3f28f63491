-- What a text does, in either reading: the careful one, `unchanged`, and Rust's, `wrapping`.
use Rattle.std.specs.Prelude.{◌≡◌, ℕ, ℤ, List, length, Option, Some}
use Rattle.fx_rational.specs.Rational.{Rational}
use Rattle.fx_model.specs.Function.{Step, Run, run_of}
use Rattle.fx_model.specs.Machine.{Program, words_of, machine_step, start_words}
use Rattle.fx_statements.specs.Statements.{Routine}
use Rattle.fx_statements.specs.RustText.{rust_text}
use Rattle.fx_statements.specs.Meaning.{unchanged}
use Rattle.fx_statements.specs.RustMeaning.{Keeping, wrapping, routine_step}
use Rattle.fx_statements.specs.OfProgram.{routine_of, input_words}
use Rattle.fx_statements.specs.Writable.{IsWritable}
use Rattle.fx_statements.specs.Widths.{FitWidths}

-- what the text of a program gives, row by row, each from the states that the one before it left
abbrev pub text_run : Keeping → Program → List ℕ → List (List Rational) → Option (Run ℤ)
text_run keep p ns rows =
    run_of (λ g z. routine_step keep (routine_of p ns) z (input_words p.codes g)) rows (start_words p.codes)

-- it gives this run, in both readings: nothing panics, and no `as` and no `<<` changes a value
pub record GivesRun (p : Program) (ns : List ℕ) (rows : List (List Rational)) (run : Run ℤ) : Type 0 where
  pub careful : text_run unchanged p ns rows ≡ Some run
  pub rust : text_run wrapping p ns rows ≡ Some run

-- what a text does, from the states s and the inputs x: what its statements do
pub record Does (keep : Keeping) (text : List ℕ) (s x : List ℤ) (d : Option (Step ℤ)) : Type 0 where
  pub routine : Routine
  pub writable : IsWritable routine
  pub written : text ≡ rust_text routine
  pub step : routine_step keep routine s x ≡ d

-- in this reading the text does the machine's step wherever that isn't stuck and each word lies in its width
abbrev pub DoesStepsIn : Keeping → Program → List ℕ → List ℕ → Type 0
DoesStepsIn keep p ns text =
    (g : List Rational) (z ws : List ℤ) → length z ≡ p.states → words_of p g z ≡ Some ws → FitWidths ns ws
    → Does keep text z (input_words p.codes g) (machine_step p g z)

-- so in both: nothing panics, and no `as` and no `<<` changes a value
pub record DoesSteps (p : Program) (ns text : List ℕ) : Type 0 where
  pub careful : DoesStepsIn unchanged p ns text
  pub rust : DoesStepsIn wrapping p ns text
