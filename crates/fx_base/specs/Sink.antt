-- What a write does.
use Rattle.std.specs.Prelude.{ℕ, ◌<◌, List, length, IfOk, Result}

-- of a piece that isn't empty at least one byte is taken
abbrev pub WritesSome : {E : Type 0} → Result ℕ E → List ℕ → Type 0
WritesSome result piece = IfOk result (λ n. 0 < length piece → 0 < n)
