-- That a search finds the first place at which its test is true.
use Rattle.std.specs.Prelude.{◌≡◌, ℕ, ◌+◌, ◌<◌, ◌≤◌, Bool, true}
use Rattle.fx_plan_laws.specs.Powers.{first_true}

-- of the n places from i on, k is the first at which the test is true; it is i + n where there is none
pub record IsFirstTrue (n : ℕ) (test : ℕ → Bool) (i k : ℕ) : Type 0 where
  pub from_first : i ≤ k
  pub to_last : k ≤ i + n
  pub holds : k < i + n → test k ≡ true
  pub least : (j : ℕ) → i ≤ j → j < i + n → test j ≡ true → k ≤ j

-- so it is for each test
abbrev pub FirstTrueLaw : Type 0
FirstTrueLaw = (n : ℕ) (test : ℕ → Bool) (i : ℕ) → IsFirstTrue n test i (first_true n test i)
