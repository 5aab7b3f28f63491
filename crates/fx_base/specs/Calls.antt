-- What a call that reads to the end, or writes a whole list, has taken or appended where it refuses.
use Rattle.std.specs.Prelude.{ℕ, ◌≡◌, ◌≤◌, ◌<◌, ◌↔◌, List, length, take, Option}
use Rattle.std.specs.Io.KnownBytes.{Consumes, Appends}
use Rattle.fx_base.specs.declared.answers.InFault.{InFault}
use Rattle.fx_base.specs.declared.answers.InFault.TheVariants.{TooLong}

-- bytes were taken from the front, and more than `limit` of them exactly where the fault is TooLong
abbrev pub TakesUpTo : Option (List ℕ) → Option (List ℕ) → ℕ → InFault → Type 0
TakesUpTo old new limit fault = (taken : List ℕ) × Consumes old new taken × ((fault ≡ TooLong) ↔ (limit < length taken))

-- a front of the bytes was appended
abbrev pub AppendsFront : Option (List ℕ) → Option (List ℕ) → List ℕ → Type 0
AppendsFront old new bytes = (n : ℕ) × (n ≤ length bytes) × Appends old new (take n bytes)
