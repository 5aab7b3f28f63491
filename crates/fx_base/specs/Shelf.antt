-- The files of a shelf, and what a read of one gives.
use Rattle.std.specs.Prelude.{ℕ, ◌≡◌, ◌≤◌, ◌<◌, ◌⊎◌, List, length, take, drop, map, ⊤, MatchOption, IfOk, IsErr, OnErr, Result, Option, Some, None}
use Rattle.std.specs.Map.{lookup}
use Rattle.std.specs.Str.{bytes_eq}
use Rattle.std.specs.declared.vec.Vec.{Vec}
use Rattle.std.specs.declared.alloc.Global.{Global}
use Rattle.fx_base.specs.Causes.{Rose}

-- names with their bytes
abbrev pub Files : Type 0
Files = List (List ℕ × List ℕ)

-- the files that a list in memory holds
abbrev pub entries : List (List ℕ × Vec ℕ Global) → Files
entries files = map (λ file. (file.0, file.1.items)) files

-- the bytes under a name: of two files with one name the first counts
abbrev pub paper_of : Files → List ℕ → Option (List ℕ)
paper_of files name = lookup (bytes_eq name) files

-- the shelf tells its papers, and the name isn't among them
abbrev pub IsMissing : Option Files → List ℕ → Type 0
IsMissing None name = ⊥
IsMissing (Some files) name = paper_of files name ≡ None

-- where the shelf tells its papers, P of the bytes under that name
abbrev pub IfPaper : Option Files → List ℕ → (Option (List ℕ) → Type 0) → Type 0
IfPaper None name P = ⊤
IfPaper (Some files) name P = P (paper_of files name)

-- the n bytes of the file from a place on, and none only at its end or with no room
abbrev pub GivesPart : List ℕ → ℕ → ℕ → List ℕ → Type 0
GivesPart file at n buf = (take n buf ≡ take n (drop at file)) × (n ≡ 0 → 0 < length buf → length file ≤ at)

-- what a read at a place gives: a part of the file, and nothing but a refusal where there is no file
abbrev pub ReadsPart : {E : Type 0} → Option Files → List ℕ → ℕ → Result ℕ E → List ℕ → Type 0
ReadsPart papers name at result buf =
    IfPaper papers name (λ paper. MatchOption paper (IsErr result) (λ file. IfOk result (λ n. GivesPart file at n buf)))

-- the count hasn't fallen; a refusal comes only where it rose, or where there is no such file, and then it stands
pub record HasShelfCause {T E : Type 0} (papers : Option Files) (name : List ℕ) (before now : ℕ)
    (result : Result T E) : Type 0 where
  pub later : before ≤ now
  pub failed : OnErr result (IsMissing papers name ⊎ Rose before now)
  pub missing : IsMissing papers name → now ≡ before
