-- When a source is asked for bytes: what stood then, and what held each time.
use Rattle.std.specs.Prelude.{ℕ, ◌≡◌, ◌⊎◌, ◌==◌, List, [], ◌∷◌, ◌++◌, position, All, Option, None}
use Rattle.std.specs.Io.KnownBytes.{Consumes}

-- what the source had left, and what the sink before its feeder's eyes had taken
pub record Moment : Type 0 where
  pub left : Option (List ℕ)
  pub taken : Option (List ℕ)

-- whoever is asked this notes it behind what it noted before, or notes nothing
abbrev pub Notes : {X : Type 0} → X → List X → List X → Type 0
Notes x old new = (new ≡ old) ⊎ (new ≡ old ++ x ∷ [])

-- P holds of each moment that was noted since
abbrev pub HoldsEachTime : (Moment → Type 0) → List Moment → List Moment → Type 0
HoldsEachTime P old new = (since : List Moment) × (new ≡ old ++ since) × All P since

-- the source was asked behind these bytes of it and more, of which none ends a line; the sink had taken this
abbrev pub IsSought : List ℕ → Option (List ℕ) → Option (List ℕ) → Moment → Type 0
IsSought held left taken m =
    (more : List ℕ) × Consumes left m.left more × (position (λ b. b == 10) (held ++ more) ≡ None) × (m.taken ≡ taken)
