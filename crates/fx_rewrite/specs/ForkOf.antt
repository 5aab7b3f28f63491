-- How a path differs from one before it.
use Rattle.std.specs.Prelude.{◌≡◌, ℕ, ◌≤◌, List, [], ◌∷◌, ◌++◌, take, length, Option, Some, None}
use Rattle.fx_rewrite.specs.declared.successor.Fork.{Fork}

-- so many entries of the path, and then another
abbrev pub forked : List ℕ → Fork → List ℕ
forked path f = take f.keep path ++ f.number ∷ []

-- a fork gives the next path, or there is none
abbrev pub Forks : List ℕ → Option Fork → Option (List ℕ) → Type 0
Forks path None next = next ≡ None
Forks path (Some f) next = (f.keep ≤ length path) × (next ≡ Some (forked path f))
