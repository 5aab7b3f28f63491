-- Where a node may stand in a list.
use Rattle.std.specs.Prelude.{◌≡◌, ℕ, ◌+◌, ◌<◌, ◌≤◌, List, [], ◌∷◌}
use Rattle.fx_model.specs.Nodes.{Node, Input, State, Const, Neg, Add, Sub, Mul, Div, Copy}

-- node k, after i inputs and s states: these stand at their numbers, all others behind them, and operands before their
-- node
abbrev pub IsInPlace : ℕ → ℕ → ℕ → Node → Type 0
IsInPlace i s k (Input j) = (k ≡ j) × (j < i)
IsInPlace i s k (State j) = (k ≡ i + j) × (j < s)
IsInPlace i s k (Const c) = i + s ≤ k
IsInPlace i s k (Neg a) = (i + s ≤ k) × (a < k)
IsInPlace i s k (Add a b) = (i + s ≤ k) × (a < k) × (b < k)
IsInPlace i s k (Sub a b) = (i + s ≤ k) × (a < k) × (b < k)
IsInPlace i s k (Mul a b) = (i + s ≤ k) × (a < k) × (b < k)
IsInPlace i s k (Div a b) = (i + s ≤ k) × (a < k) × (b < k)
IsInPlace i s k (Copy a) = (i + s ≤ k) × (a < k)

-- node k and those after it
abbrev pub AreInPlace : ℕ → ℕ → ℕ → List Node → Type 0
AreInPlace i s k [] = Unit {0}
AreInPlace i s k (node ∷ nodes) = IsInPlace i s k node × AreInPlace i s (k + 1) nodes
