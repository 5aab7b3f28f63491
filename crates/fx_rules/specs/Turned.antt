-- What each rule makes of a tree: the table read as a computation.
use Rattle.std.specs.Prelude.{ℕ, ◌==◌, ◌&&◌, Bool, true, false, Option, Some, None, if◌then◌else◌, ℤ, pos, negsuc}
use Rattle.std.specs.Option.{option_and_then, option_map}
use Rattle.fx_rational.specs.Rational.{Rational, whole, lowest}
use Rattle.fx_model.specs.Tree.{Tree, Literal, Input, State, Temp, Negation, Sum, Difference, Product, Quotient}
use Rattle.fx_model.specs.Rules as table
use Rattle.fx_model.specs.Rules.{Pattern, Letters, Rule, Folding, A, B, C, L, K, rule, filled, folding_fits}

-- the left side doesn't match, or the literal that is folded leaves its limits, or the tree becomes another
pub data Turned : Type 0 where
  NoMatch : Turned
  TooLong : Turned
  Becomes : (new : Tree) → Turned

-- whether two whole numbers are the same
abbrev pub same_whole : ℤ → ℤ → Bool
same_whole (pos m) (pos n) = m == n
same_whole (negsuc m) (negsuc n) = m == n
same_whole _ _ = false

-- whether two trees are the same
abbrev pub same_tree : Tree → Tree → Bool
same_tree (Literal c) (Literal d) = same_whole c.top d.top && c.less == d.less
same_tree (Input k) (Input n) = k == n
same_tree (State k) (State n) = k == n
same_tree (Temp k) (Temp n) = k == n
same_tree (Negation a) (Negation x) = same_tree a x
same_tree (Sum a b) (Sum x y) = same_tree a x && same_tree b y
same_tree (Difference a b) (Difference x y) = same_tree a x && same_tree b y
same_tree (Product a b) (Product x y) = same_tree a x && same_tree b y
same_tree (Quotient a b) (Quotient x y) = same_tree a x && same_tree b y
same_tree _ _ = false

-- the letters that were found so far
pub record Found : Type 0 where
  pub a : Option Tree
  pub b : Option Tree
  pub c : Option Tree
  pub l : Option Rational
  pub k : Option Rational

-- none
abbrev pub nothing : Found
nothing = record { a = None; b = None; c = None; l = None; k = None }

-- whether a letter may stand for this tree: it does, or it wasn't found yet
abbrev pub may_be : Option Tree → Tree → Bool
may_be None e = true
may_be (Some t) e = same_tree t e

-- the same of a literal
abbrev pub may_be_number : Option Rational → Rational → Bool
may_be_number None q = true
may_be_number (Some r) q = same_tree (Literal r) (Literal q)

-- the letters, once a pattern is found in a tree too
abbrev pub matched : Pattern → Tree → Found → Option Found
matched A e z = if may_be z.a e then Some (record z { a = Some e }) else None
matched B e z = if may_be z.b e then Some (record z { b = Some e }) else None
matched C e z = if may_be z.c e then Some (record z { c = Some e }) else None
matched L (Literal q) z = if may_be_number z.l q then Some (record z { l = Some q }) else None
matched K (Literal q) z = if may_be_number z.k q then Some (record z { k = Some q }) else None
matched (table.Negation p) (Negation x) z = matched p x z
matched (table.Sum p q) (Sum x y) z = option_and_then (matched q y) (matched p x z)
matched (table.Difference p q) (Difference x y) z = option_and_then (matched q y) (matched p x z)
matched (table.Product p q) (Product x y) z = option_and_then (matched q y) (matched p x z)
matched (table.Quotient p q) (Quotient x y) z = option_and_then (matched q y) (matched p x z)
matched _ _ z = None

-- a letter that wasn't found stands for any tree
abbrev pub or_leaf : Option Tree → Tree
or_leaf None = Input 0
or_leaf (Some e) = e

-- and for any literal
abbrev pub or_zero : Option Rational → Rational
or_zero None = whole (pos 0)
or_zero (Some q) = q

-- what was found, and the literal that is folded
abbrev pub letters_of : Found → Rational → Letters
letters_of z made = record {
  a = or_leaf z.a;
  b = or_leaf z.b;
  c = or_leaf z.c;
  l = or_zero z.l;
  k = or_zero z.k;
  made = made;
}

-- the literal that is folded, in lowest terms; any where a rule makes none
abbrev pub folded : Folding → Found → Option Rational
folded None z = Some (whole (pos 0))
folded (Some f) z = option_map lowest (f (or_zero z.l) (or_zero z.k))

-- new, where its literal keeps the limits
abbrev pub where_fits : Bool → Tree → Turned
where_fits true new = Becomes new
where_fits false new = TooLong

-- the right side
abbrev pub made : Rule → Found → Option Rational → Turned
made r z None = NoMatch
made r z (Some q) = where_fits (folding_fits r.folding (letters_of z q)) (filled (letters_of z q) r.right)

-- the same where the left side was found
abbrev pub outcome : Rule → Option Found → Turned
outcome r None = NoMatch
outcome r (Some z) = made r z (folded r.folding z)

-- by a rule
abbrev pub turned_by : Option Rule → Tree → Turned
turned_by None e = NoMatch
turned_by (Some r) e = outcome r (matched r.left e nothing)

-- what the rule of a number makes of a tree; no tree matches where there is no such rule
abbrev pub turned : ℕ → Tree → Turned
turned n e = turned_by (rule n) e
