-- What a rule makes of a tree, as the code names it.
use Rattle.std.specs.Prelude.{◌≡◌, ℕ}
use Rattle.fx_rational.specs.Rational.{Rational}
use Rattle.fx_model.specs.Tree.{Tree}
use Rattle.fx_expr.specs.SizeOf.{size_of}
use Rattle.fx_model.specs.Rules.{filled}
use Rattle.fx_rules.specs.Turned as rules
use Rattle.fx_rules.specs.Turned.{letters_of, turned}
use Rattle.fx_rewrite.specs.Moving.{all_carried, copied}
use Rattle.fx_rewrite.specs.RuleOf.{pattern_of}
use Rattle.fx_rewrite.specs.declared.pattern.Rule.{Rule}
use Rattle.fx_rewrite.specs.declared.matching.Sizes.{Sizes}
use Rattle.fx_rewrite.specs.declared.matching.Match.{Match}
use Rattle.fx_rewrite.specs.declared.matching.Judged.{Judged}
use Rattle.fx_rewrite.specs.declared.matching.Judged.TheVariants.{NoMatch, TooLong, Matches}

-- the sizes of both sides of a rule
pub record AreSizes (z : Sizes) (r : Rule) (found : rules.Found) : Type 0 where
  pub old : (made : Rational) → z.old ≡ size_of (filled (letters_of found made) (pattern_of r.left))
  pub new : (made : Rational) → z.new ≡ size_of (filled (letters_of found made) (pattern_of r.right))

-- the tree that a match makes with these letters
abbrev pub new_of : rules.Found → Match → Tree
new_of found m = filled (letters_of found m.made) (pattern_of m.right)

-- what is built of it before letters are moved: those that are copied are there
abbrev pub begun : rules.Found → Match → Tree
begun found m = filled (letters_of (copied m.moves found) m.made) (pattern_of m.right)

-- a rule matches, its letters are these, both trees have these sizes, and letters moved out of the old one finish the
-- new one
pub record IsMatch (found : rules.Found) (m : Match) (n : ℕ) (old : Tree) : Type 0 where
  pub becomes : turned n old ≡ rules.Becomes (new_of found m)
  pub less : m.sizes.old ≡ size_of old
  pub more : m.sizes.new ≡ size_of (new_of found m)
  pub finished : all_carried m.moves old (begun found m) ≡ new_of found m

-- what the rule of number n makes of a tree, as the code names it
abbrev pub IsJudged : Judged → rules.Found → ℕ → Tree → Type 0
IsJudged NoMatch found n old = turned n old ≡ rules.NoMatch
IsJudged TooLong found n old = turned n old ≡ rules.TooLong
IsJudged (Matches m) found n old = IsMatch found m n old
