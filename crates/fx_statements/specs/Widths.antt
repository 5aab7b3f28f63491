-- A width of its own for the word of each code.
use Rattle.std.specs.Prelude.{◌≡◌, ℕ, ◌<◌, ◌≤◌, ℤ, pos, List, [], ◌∷◌, length, Some, Contains}
use Rattle.fx_rational.specs.Rational.{Rational}
use Rattle.fx_model.specs.Tree.{at}
use Rattle.fx_model.specs.Function.{Step}
use Rattle.fx_model.specs.Machine.{Program, IsWord, words_of, machine_step}
use Rattle.fx_model.specs.LawfulProgram.{widths}

-- one of the word widths for each code, at most that of the program
pub record AreWidths (p : Program) (ns : List ℕ) : Type 0 where
  pub each : length ns ≡ length p.codes
  pub known : (k : ℕ) → k < length ns → Contains widths (at 0 ns k)
  pub most : (k : ℕ) → k < length ns → at 0 ns k ≤ p.width

-- each word lies in its width
abbrev pub FitWidths : List ℕ → List ℤ → Type 0
FitWidths ns ws = (k : ℕ) → k < length ws → IsWord (at 0 ns k) (at (pos 0) ws k)

-- so at each row of the run from the states z
abbrev pub RowsFitWidths : Program → List ℕ → List (List Rational) → List ℤ → Type 0
RowsFitWidths p ns [] z = Unit {0}
RowsFitWidths p ns (g ∷ rows) z = (ws : List ℤ) → words_of p g z ≡ Some ws →
    FitWidths ns ws × ((d : Step ℤ) → machine_step p g z ≡ Some d → RowsFitWidths p ns rows d.next)
