-- What each row of the table of rules has: it keeps value and names, its left side finds its letters, and they settle
-- its right side.
use Rattle.std.proofs.Common.{◌≡◌, ℕ, List, [], ◌∷◌, true, Option, Some, None}
use Rattle.fx_rational.specs.Rational.{Rational}
use Rattle.fx_rational.specs.Laws.{SameOption}
use Rattle.fx_model.specs.Tree.{Tree, value_of}
use Rattle.fx_model.specs.Valid.{RefersBelow}
use Rattle.fx_model.specs.Rules.{Letters, Rule, filled, Folding, IsFolded}
use Rattle.fx_rules.proofs.Matching.{finds_all}

-- two trees have one value everywhere
abbrev pub SameTrees : Tree → Tree → Type 0
SameTrees old new = (t x y : List Rational) → SameOption (value_of old t x y) (value_of new t x y)

-- new refers to no more than old
abbrev pub KeepsRefers : Tree → Tree → Type 0
KeepsRefers old new = (i k m : ℕ) → RefersBelow i k m old → RefersBelow i k m new

-- a row keeps both
abbrev pub IsSoundRule : Rule → Type 0
IsSoundRule r = (s : Letters) → IsFolded r.folding s →
    SameTrees (filled s r.left) (filled s r.right) × KeepsRefers (filled s r.left) (filled s r.right)

-- what is folded
abbrev pub value : Folding → Letters → Option Rational
value None s = None
value (Some f) s = f s.l s.k

-- the literals that are folded are the same, if any is
abbrev pub SameMade : Folding → Letters → Letters → Type 0
SameMade None s t = Unit {0}
SameMade (Some f) s t = s.made ≡ t.made

-- a row is a rule
pub record IsRule (r : Rule) : Type 0 where
  -- it keeps the value, and refers to no more
  pub sound : IsSoundRule r
  -- the letters of the right side, and those that are folded, stand on the left
  pub finds : finds_all r.left ≡ true
  pub value : (s t : Letters) → filled s r.left ≡ filled t r.left → value r.folding s ≡ value r.folding t
  pub right : (s t : Letters) → filled s r.left ≡ filled t r.left → SameMade r.folding s t →
      filled s r.right ≡ filled t r.right

abbrev pub AreRules : List Rule → Type 0
AreRules [] = Unit {0}
AreRules (r ∷ rs) = IsRule r × AreRules rs
