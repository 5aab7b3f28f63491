-- What contracts see of a node: what is certified, and the registers of each unit.
use Rattle.std.specs.Prelude.{ℕ, ◌≡◌, pos, List, [], All, length, replicate, slice_index_or, slice_set, Some}
use Rattle.fx_rational.specs.Rational.{Rational}
use Rattle.fx_model.specs.Machine.{Program, machine_step, start_words, words_of}
use Rattle.fx_machine.specs.Registers.{Contents}
use Rattle.fx_machine.specs.Steps.{step_taken}
use Rattle.fx_checker.specs.CertifiedView.{Accepted, IsStepReady}

-- a certified program with registers for each unit
pub record Units : Type 0 where
  pub accepted : Accepted
  pub registers : List Contents

-- the registers of a unit
abbrev pub registers_of : Units → ℕ → Contents
registers_of node u = slice_index_or node.registers u record { words = []; states = [] }

-- registers before the first row
abbrev pub first_registers : Program → Contents
first_registers p = record { words = replicate (length p.codes) (pos 0); states = start_words p.codes }

-- so many units before their first rows
abbrev pub first_units : Accepted → ℕ → Units
first_units a units = record { accepted = a; registers = replicate units (first_registers a.program) }

-- the width is so many bits, and the state words of each unit are near some exact state
pub record IsNode (bits : ℕ) (node : Units) : Type 0 where
  pub width : node.accepted.program.width ≡ bits
  pub ready : All (λ r. IsStepReady node.accepted r.words r.states) node.registers

-- registers before and behind a step that isn't stuck
pub record IsStepped (p : Program) (g : List Rational) (before after : Contents) : Type 0 where
  pub words : words_of p g before.states ≡ Some after.words
  pub states : after.states ≡ (step_taken p after.words).next
  pub step : machine_step p g before.states ≡ Some (step_taken p after.words)

-- one unit took a step on this row, and all others are as they were
pub record IsTurned (u : ℕ) (g : List Rational) (before after : Units) : Type 0 where
  pub made : Contents
  pub stepped : IsStepped before.accepted.program g (registers_of before u) made
  pub alone : after ≡ record { accepted = before.accepted; registers = slice_set before.registers u made }
