-- Rows side by side: sixteen that lie one behind the other, and the words of each in its lane.
use Rattle.std.specs.Prelude.{◌≡◌, ℕ, ◌*◌, ◌<◌, ℤ, pos, List, [], length, take, drop, map, IsSome, Some}
use Rattle.fx_rational.specs.Decimal.{Decimal}
use Rattle.fx_model.specs.Machine.{Code}
use Rattle.fx_model.specs.Tree.{at}
use Rattle.fx_machine.specs.Codes.{word_of}

-- row k of rows of n numbers each, that lie one behind the other
abbrev pub row_at : ℕ → ℕ → List Decimal → List Decimal
row_at n k ds = take n (drop (k * n) ds)

-- the words of lane k
abbrev pub lane : ℕ → List (List ℤ) → List ℤ
lane k vs = map (λ v. at (pos 0) v k) vs

-- the sixteen words of code a, among those of all
pub record AreWordsAt (vs : List (List ℤ)) (a : ℕ) (ws : List ℤ) : Type 0 where
  pub many : length ws ≡ 16
  pub each : (k : ℕ) → at (pos 0) ws k ≡ at (pos 0) (lane k vs) a

-- a code that computes with words alone, and isn't stuck in any lane
pub record GoesInLanes (n : ℕ) (c : Code) (vs : List (List ℤ)) : Type 0 where
  pub each : (k : ℕ) → k < 16 → IsSome (word_of n c [] [] (lane k vs))

-- its sixteen words
pub record AreWordsOf (n : ℕ) (c : Code) (vs : List (List ℤ)) (ws : List ℤ) : Type 0 where
  pub each : (k : ℕ) → k < 16 → word_of n c [] [] (lane k vs) ≡ Some (at (pos 0) ws k)
