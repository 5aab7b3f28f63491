-- Sixteen rows, one behind the other, and the lines of the first of them. No clause of a public call rests on this.
use Rattle.std.specs.Prelude.{ℕ, zero, suc, ◌≡◌, ◌⊎◌, ◌<◌, ◌≤◌, ◌*◌, ℤ, List, [], ◌∷◌, ◌++◌, length, map, Bool, true}
use Rattle.std.proofs.Common.{ap, ◌∙◌}
use Rattle.fx_rational.specs.Decimal.{Decimal, decimal_value}
use Rattle.fx_model.specs.Function.{Input}
use Rattle.fx_model.specs.Machine.{Program}
use Rattle.fx_model.specs.Rows.{IsInRange}
use Rattle.fx_checker.specs.CertifiedView.{Accepted}
use Rattle.fx_lanes.specs.RowsSideBySide.{row_at}
use Rattle.fx_machine.specs.Registers.{Contents}
use Rattle.fx_run.specs.Steps.{CanStep, lines_from, nothing_from}

-- each of sixteen rows of n numbers is in range
abbrev pub IsBlockInRange : List Input → ℕ → List Decimal → Type 0
IsBlockInRange is n rows = (k : ℕ) → k < 16 → IsInRange is (map decimal_value (row_at n k rows))

-- the first rows of n numbers each
abbrev pub first_rows : ℕ → ℕ → List Decimal → List (List Decimal)
first_rows n zero ds = []
first_rows n (suc k) ds = first_rows n k ds ++ row_at n k ds ∷ []

-- the lines of these rows stand behind the text, where no row leaves a state
abbrev pub ArePut : Program → List (List Decimal) → List ℕ → List ℕ → Type 0
ArePut p rows old new = (text : List ℕ) × (new ≡ old ++ text) ×
    ((rest : List (List Decimal)) → lines_from p (rows ++ rest) [] ≡ text ++ lines_from p rest [])

-- rows that a program without states holds back, and sixteen words for each of its codes
pub record HoldsRows (a : Accepted) (made : List (List ℤ)) (rows : List Decimal) (held : ℕ)
    (filled : Bool) : Type 0 where
  pub states : a.program.states ≡ 0
  pub words : length made ≡ length a.program.codes
  pub many : length rows ≡ 16 * a.program.inputs
  pub few : held ≤ 15
  pub begun : (held ≡ 0) ⊎ (filled ≡ true)
  pub in_range : filled ≡ true → IsBlockInRange a.function.inputs a.program.inputs rows

-- such a program of this width, with room for its words in lanes, may take a row
pub record CanHold (Room : Type 0) (a : Accepted) (bits : ℕ) (r : Contents) (made : List (List ℤ)) (rows : List Decimal)
    (held : ℕ) (filled : Bool) : Type 0 where
  pub room : Room
  pub can : CanStep a bits r
  pub none : r.states ≡ []
  pub holds : HoldsRows a made rows held filled

-- where no row is held nothing is printed of no rows
pub nothing_held : (p : Program) (n k : ℕ) (ds : List Decimal) → k ≡ 0 → lines_from p (first_rows n k ds ++ []) [] ≡ []
nothing_held p n k ds e = ap (λ m. lines_from p (first_rows n m ds ++ []) []) e ∙ nothing_from p []
