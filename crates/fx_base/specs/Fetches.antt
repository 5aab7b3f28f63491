-- What is held once a line was sought.
use Rattle.std.specs.Prelude.{ℕ, ◌≡◌, ◌<◌, ◌==◌, List, length, position, Option, Some, None}
use Rattle.std.specs.Io.KnownBytes.{IsAtEnd}
use Rattle.fx_base.specs.declared.fetch.Fetched.{Fetched}
use Rattle.fx_base.specs.declared.fetch.Fetched.TheVariants.{Whole, Long, Ended}

-- what the bytes hold of a line's end
abbrev pub HasFound : List ℕ → Fetched → Type 0
HasFound bytes (Whole end) = position (λ b. b == 10) bytes ≡ Some end
HasFound bytes Long = (65540 < length bytes) × (position (λ b. b == 10) bytes ≡ None)
HasFound bytes Ended = position (λ b. b == 10) bytes ≡ None

-- the same, with an input that has ended where no more was read
abbrev pub HasFetched : List ℕ → Option (List ℕ) → Fetched → Type 0
HasFetched bytes left fetched = HasFound bytes fetched × (fetched ≡ Ended → IsAtEnd left)
