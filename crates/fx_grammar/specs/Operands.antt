-- What was read of an expression: its tree, its height and its nodes.
use Rattle.std.specs.Prelude.{◌==◌, ◌+◌, ℕ, pos, Bool, Option, Some, None, max, min, nat_le, if◌then◌else◌}
use Rattle.fx_rational.specs.Rational.{whole}
use Rattle.fx_model.specs.Limits.{node_limit, height_limit}
use Rattle.fx_model.specs.Tree.{Tree, Literal, Negation, Sum, Difference, Product, Quotient}
use Rattle.fx_grammar.specs.declared.head.Head.{Head}
use Rattle.fx_grammar.specs.declared.head.Head.TheVariants as heads

-- a tree, or none where it is higher than 200; its height, counted up to 201;
-- its nodes in the list of operations, where names make none, counted up to 4,001
pub record Operand : Type 0 where
  pub tree : Option Tree
  pub height : ℕ
  pub nodes : ℕ

-- a tree of height 1 with so many nodes
abbrev pub leaf : Tree → ℕ → Operand
leaf x nodes = record { tree = Some x; height = 1; nodes = nodes }

-- a count of nodes, stopped behind the limit
abbrev pub counted_nodes : ℕ → ℕ
counted_nodes n = min (node_limit + 1) n

-- a tree, where it isn't too high
abbrev pub low_tree : ℕ → Option Tree → Option Tree
low_tree height x = if nat_le height height_limit then x else None

-- the negation of a tree that is there
abbrev pub negation_of : Option Tree → Option Tree
negation_of None = None
negation_of (Some x) = Some (Negation x)

-- the negation of an operand, one higher, of one node more
abbrev pub negation : Operand → Operand
negation a =
    let h = min (height_limit + 1) (1 + a.height) in
    record { tree = low_tree h (negation_of a.tree); height = h; nodes = counted_nodes (1 + a.nodes) }

-- the operation of a sign
abbrev pub operation : Head → Tree → Tree → Tree
operation heads.Plus x y = Sum x y
operation heads.Minus x y = Difference x y
operation heads.Star x y = Product x y
operation _ x y = Quotient x y

-- the operation of two trees that are there
abbrev pub both : Head → Option Tree → Option Tree → Option Tree
both sign None y = None
both sign (Some x) None = None
both sign (Some x) (Some y) = Some (operation sign x y)

-- the operation of two operands, higher than both by one, of one node more
abbrev pub combined_operand : Head → Operand → Operand → Operand
combined_operand sign a b =
    let h = min (height_limit + 1) (1 + max a.height b.height) in
    record { tree = low_tree h (both sign a.tree b.tree); height = h; nodes = counted_nodes (1 + a.nodes + b.nodes) }

-- the tree is higher than 200
abbrev pub is_high : Operand → Bool
is_high a = a.height == height_limit + 1

-- the tree, which is there where it isn't too high
abbrev pub tree_or : Option Tree → Tree
tree_or None = Literal (whole (pos 0))
tree_or (Some x) = x
