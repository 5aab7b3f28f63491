-- What a shelf is asked for.
use Rattle.std.specs.Prelude.{ℕ, ◌≡◌, ◌<◌, List, ◌++◌, All}
use Rattle.std.specs.List.{AllPairs}

-- bytes of the file of this name, from this place on
pub record Request : Type 0 where
  pub name : List ℕ
  pub at : ℕ

-- what was asked for since is this file alone, each place of it once and behind the places before
pub record AsksInOrder (name : List ℕ) (old new : List Request) : Type 0 where
  pub since : List Request
  pub noted : new ≡ old ++ since
  pub alone : All (λ r. r.name ≡ name) since
  pub rising : AllPairs (λ r later. r.at < later.at) since
