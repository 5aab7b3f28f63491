-- A step on a function: what it gives, as a relation and as a computation.
use Rattle.std.specs.Prelude.{◌≡◌, ◌↔◌, ℕ, ◌≤◌, nat_le, Bool, true, ◌&&◌, length, Option, Some, None, IfSome, if◌then◌else◌}
use Rattle.std.specs.Option.{option_and_then}
use Rattle.fx_model.specs.Limits.{node_limit, height_limit}
use Rattle.fx_model.specs.Tree.{Tree}
use Rattle.fx_model.specs.Function.{Function}
use Rattle.fx_model.specs.Nodes.{nodes_of}
use Rattle.fx_model.specs.Paths.{height, found, tree_at, with_tree}
use Rattle.fx_inequalities.specs.Rewriting.{Rewriting, Rewrites as Way, KeepsMeaning}
use Rattle.fx_model.specs.Rules.{RewritesTree, folding_fits}
use Rattle.fx_rules.specs.Turned.{Turned, NoMatch, TooLong, Becomes, turned}

-- h is f rewritten by the step: the place and the path are there, the rule matches, and the limits are kept
pub record IsRewritten (f : Function) (s : Rewriting) (h : Function) : Type 0 where
  pub old : Tree
  pub new : Tree
  pub there : found f s.place s.path ≡ Some old
  pub rewrites : RewritesTree s.rule old new
  pub literal : folding_fits rewrites.by.folding rewrites.letters ≡ true
  pub result : h ≡ with_tree f s.place s.path new
  pub nodes : length (nodes_of h) ≤ node_limit
  pub height : IfSome (tree_at h s.place) (λ e. height e ≤ height_limit)

-- a tree, where there is one, keeps the limit of heights
abbrev pub is_low : Option Tree → Bool
is_low None = true
is_low (Some e) = nat_le (height e) height_limit

-- its nodes and the tree at this place keep their limits
abbrev pub is_within_limits : Function → ℕ → Bool
is_within_limits h place = nat_le (length (nodes_of h)) node_limit && is_low (tree_at h place)

-- the function, where it does
abbrev pub kept_within : Function → ℕ → Option Function
kept_within h place = if is_within_limits h place then Some h else None

-- the function with what the rule made of a subtree
abbrev pub after : Function → Rewriting → Turned → Option Function
after f s NoMatch = None
after f s TooLong = None
after f s (Becomes new) = kept_within (with_tree f s.place s.path new) s.place

-- the function rewritten by a step: none where the place, the match or a limit fails
abbrev pub rewrite : Way
rewrite f s = option_and_then (λ old. after f s (turned s.rule old)) (found f s.place s.path)

-- no letters make the rule's left side of this tree
abbrev pub IsUnmatched : ℕ → Tree → Type 0
IsUnmatched n old = (new : Tree) → RewritesTree n old new → ⊥

-- rewriting is exactly what the rules say, and keeps value, definedness and all else that a function means
pub record RewriteLaw : Type 0 where
  pub exact : (f : Function) (s : Rewriting) (h : Function) → (rewrite f s ≡ Some h) ↔ IsRewritten f s h
  pub keeps : KeepsMeaning rewrite
