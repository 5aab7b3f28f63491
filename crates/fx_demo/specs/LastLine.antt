-- The last line of a page.
use Rattle.std.specs.Prelude.{◌≡◌, ℕ, List, [], ◌∷◌, ◌++◌, Contains}

-- the last of several lines, without its line feed
pub record IsLastLine (text line : List ℕ) : Type 0 where
  pub before : List ℕ
  pub parts : text ≡ before ++ 10 ∷ line ++ 10 ∷ []
  pub one : ¬ Contains line 10

-- a line feed ends the text, and another stands before it
pub record HasTwoLines (text : List ℕ) : Type 0 where
  pub before : List ℕ
  pub more : List ℕ
  pub parts : text ≡ before ++ 10 ∷ more ++ 10 ∷ []
