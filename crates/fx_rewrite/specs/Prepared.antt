-- A step that is there, with the tree that it begins to put in.
use Rattle.std.specs.Prelude.{◌≡◌, Some}
use Rattle.fx_model.specs.Tree.{Tree}
use Rattle.fx_model.specs.Function.{Function}
use Rattle.fx_model.specs.Paths.{found, with_tree}
use Rattle.fx_inequalities.specs.Rewriting.{Rewriting}
use Rattle.fx_expr.specs.SizeOf.{size_of}
use Rattle.fx_rules.specs.Turned.{Becomes, turned}
use Rattle.fx_rules.specs.Steps.{rewrite}
use Rattle.fx_rewrite.specs.Moving.{all_carried}
use Rattle.fx_rewrite.specs.declared.matching.Match.{Match}

-- a tree is found, the rule makes new of it, the limits are kept, both trees have these sizes, and what was begun is
-- the new one once letters are moved into it
pub record IsPrepared (f : Function) (s : Rewriting) (begun : Tree) (m : Match) : Type 0 where
  pub old : Tree
  pub new : Tree
  pub there : found f s.place s.path ≡ Some old
  pub becomes : turned s.rule old ≡ Becomes new
  pub is : rewrite f s ≡ Some (with_tree f s.place s.path new)
  pub less : m.sizes.old ≡ size_of old
  pub more : m.sizes.new ≡ size_of new
  pub finished : all_carried m.moves old begun ≡ new
