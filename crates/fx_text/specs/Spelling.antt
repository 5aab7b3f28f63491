-- What a field may hold, and what it means that values have one spelling.
use Rattle.std.specs.Prelude.{◌≡◌, ◌==◌, ℕ, false, List, [], ◌∷◌, ◌++◌, Result, Ok}
use Rattle.std.specs.List.{AllByRecursion}
use Rattle.fx_text.specs.Cutting.{Line}

-- no such byte stands there
abbrev pub Lacks : ℕ → List ℕ → Type 0
Lacks byte text = AllByRecursion (λ b. (b == byte) ≡ false) text

-- what can stand between two spaces of a line
pub record IsField (field : List ℕ) : Type 0 where
  pub spaces : Lacks 32 field
  pub line_feeds : Lacks 10 field

-- a line has at least one field
abbrev pub AreFields : Line → Type 0
AreFields [] = ⊥
AreFields (field ∷ line) = IsField field × AllByRecursion IsField line

-- What is read is what is written of its value, and the value is as it has to be. Such a value is read from what is
-- written of it.
pub record IsOneSpelling {A X E : Type 0} (read : List X → Result (A × List X) E) (write : A → List X) (Is : A →
    Type 0) : Type 0 where
  pub takes : (xs : List X) (value : A × List X) → read xs ≡ Ok value → (xs ≡ write value.0 ++ value.1) × Is value.0
  pub again : (value : A) (rest : List X) → Is value → read (write value ++ rest) ≡ Ok (value, rest)
