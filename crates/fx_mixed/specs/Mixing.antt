-- A program in words of their own widths: what contracts see of it, and what a turn leaves.
use Rattle.std.specs.Prelude.{◌≡◌, ℕ, ◌+◌, ℤ, pos, List, ◌++◌, length, map, take, drop, Some}
use Rattle.fx_rational.specs.Rational.{Rational}
use Rattle.fx_model.specs.Machine.{Code, Program, starts_of, machine_step, words_of}
use Rattle.fx_model.specs.Tree.{at}
use Rattle.fx_inequalities.specs.Near.{IsNear}
use Rattle.fx_machine.specs.Steps.{step_taken}
use Rattle.fx_statements.specs.Widths.{FitWidths}
use Rattle.fx_widths.specs.LeastWidths.{least_widths}
use Rattle.fx_checker.specs.CertifiedView.{Accepted}

-- what is certified, and a word for each code
pub record Mixing : Type 0 where
  pub accepted : Accepted
  pub words : List ℤ

-- the least width of each code
abbrev pub widths_of : Accepted → List ℕ
widths_of a = least_widths a.program a.certificate

-- the state words, which stand behind those of the inputs
abbrev pub states_among : Program → List ℤ → List ℤ
states_among p ws = take p.states (drop p.inputs ws)

-- a state's start word, and 0 for any other code
abbrev pub first_word : Code → ℤ
first_word c = at (pos 0) (starts_of c) 0

-- the words before the first row
abbrev pub first_words : Program → List ℤ
first_words p = map first_word p.codes

-- the words of a step, with the next states' in the places of the states
abbrev pub carried : Program → List ℤ → List ℤ
carried p ws = take p.inputs ws ++ (step_taken p ws).next ++ drop (p.inputs + p.states) ws

-- each word lies in its own width, and the state words are near some exact state
pub record IsMixed (a : Accepted) (ws : List ℤ) : Type 0 where
  pub counted : length ws ≡ length a.program.codes
  pub fit : FitWidths (widths_of a) ws
  pub state : List Rational
  pub near : IsNear a.function a.program a.certificate (states_among a.program ws) state

-- the same in a bank of these widths, which are the least ones
pub record IsStored (a : Accepted) (ns : List ℕ) (ws : List ℤ) : Type 0 where
  pub widths : ns ≡ widths_of a
  pub mixed : IsMixed a ws

-- a step on the given row g that isn't stuck, in which each word lies in its own width
pub record IsTurned (a : Accepted) (g : List Rational) (before after : List ℤ) : Type 0 where
  pub made : List ℤ
  pub are : words_of a.program g (states_among a.program before) ≡ Some made
  pub fit : FitWidths (widths_of a) made
  pub step : machine_step a.program g (states_among a.program before) ≡ Some (step_taken a.program made)
  pub after_is : after ≡ carried a.program made
