-- What a certified step prints of the rows to come. No clause of a public call rests on this.
use Rattle.std.specs.Prelude.{ℕ, ◌≡◌, ℤ, List, [], ◌∷◌, ◌++◌, map, Option, Some, None, refl}
use Rattle.fx_rational.specs.Decimal.{Decimal, decimal_value}
use Rattle.fx_model.specs.Function.{Step}
use Rattle.fx_model.specs.Machine.{Program, machine_step, output_points}
use Rattle.fx_model.specs.Page.{line_of, word_texts}
use Rattle.fx_machine.specs.Registers.{Contents}
use Rattle.fx_checker.specs.CertifiedView.{Accepted, IsStepReady}

-- the line of a step's outputs
abbrev pub step_line : Program → Step ℤ → List ℕ
step_line p s = line_of (word_texts s.outputs (output_points p))

-- a step's line and what follows it; nothing where the step is stuck
abbrev pub line_then : Program → (Step ℤ → List ℕ) → Option (Step ℤ) → List ℕ
line_then p more None = []
line_then p more (Some s) = step_line p s ++ more s

-- the lines of these rows, from these state words on, up to a step that is stuck
unfoldable pub lines_from : Program → List (List Decimal) → List ℤ → List ℕ
lines_from p [] z = []
lines_from p (row ∷ rows) z = line_then p (λ s. lines_from p rows s.next) (machine_step p (map decimal_value row) z)

-- the words of a program of this width may be carried on
pub record CanStep (a : Accepted) (bits : ℕ) (r : Contents) : Type 0 where
  pub width : a.program.width ≡ bits
  pub ready : IsStepReady a r.words r.states

-- nothing is printed of no rows
pub nothing_from : (p : Program) (z : List ℤ) → lines_from p [] z ≡ []
unfolding lines_from
nothing_from p z = refl
