-- Letters that are moved from the tree that a step takes out into the one that it puts in.
use Rattle.std.specs.Prelude.{◌≡◌, ℕ, List, [], ◌∷◌, Option, Some, None}
use Rattle.fx_rational.specs.Rational.{Rational}
use Rattle.fx_model.specs.Tree.{Tree, Input}
use Rattle.fx_model.specs.Paths.{subtree, put}
use Rattle.fx_model.specs.Rules.{filled}
use Rattle.fx_rules.specs.Turned as rules
use Rattle.fx_rules.specs.Turned.{letters_of}
use Rattle.fx_rewrite.specs.RuleOf.{pattern_of}
use Rattle.fx_rewrite.specs.declared.moving.Way.{Way}
use Rattle.fx_rewrite.specs.declared.moving.Way.TheVariants.{Whole, First, Second, FirstOfFirst, SecondOfFirst, FirstOfSecond, SecondOfSecond}
use Rattle.fx_rewrite.specs.declared.moving.Move.{Move}
use Rattle.fx_rewrite.specs.declared.moving.Moves.{Moves}
use Rattle.fx_rewrite.specs.declared.pattern.Rule.{Rule}

-- the numbers of the operands on a way
abbrev pub path_of : Way → List ℕ
path_of Whole = []
path_of First = 0 ∷ []
path_of Second = 1 ∷ []
path_of FirstOfFirst = 0 ∷ 0 ∷ []
path_of SecondOfFirst = 0 ∷ 1 ∷ []
path_of FirstOfSecond = 1 ∷ 0 ∷ []
path_of SecondOfSecond = 1 ∷ 1 ∷ []

-- a tree goes from one into another, and a leaf stands in its place
abbrev pub taken : Option Tree → Move → Tree × Tree → Tree × Tree
taken None m p = p
taken (Some t) m p = (put (path_of m.from) (Input 0) p.0, put (path_of m.to) t p.1)

-- what a letter stands for does, if it is moved
abbrev pub carried : Option Move → Tree × Tree → Tree × Tree
carried None p = p
carried (Some m) p = taken (subtree (path_of m.from) p.0) m p

-- the tree that comes of another, once the letters are moved into it out of the old one
abbrev pub all_carried : Moves → Tree → Tree → Tree
all_carried ms old new = (carried ms.c (carried ms.b (carried ms.a (old, new)))).1

-- a letter that isn't moved
abbrev pub if_copied : Option Move → Option Tree → Option Tree
if_copied None t = t
if_copied (Some m) t = None

-- what was found, without the letters that are moved
abbrev pub copied : Moves → rules.Found → rules.Found
copied ms z = record z { a = if_copied ms.a z.a; b = if_copied ms.b z.b; c = if_copied ms.c z.c }

-- the right side is made of its copied letters, and of the others as they are moved out of the left one
abbrev pub IsMovable : Rule → Type 0
IsMovable r = (z : rules.Found) → (made : Rational) →
    all_carried r.moves (filled (letters_of z made) (pattern_of r.left))
    (filled (letters_of (copied r.moves z) made) (pattern_of r.right))
    ≡ filled (letters_of z made) (pattern_of r.right)
