use Rattle.fx_expr.specs.TreeOf.{tree}
use Rattle.fx_rules.proofs.SameTree.{same_tree_decided}
use Rattle.fx_rewrite.proofs.found.alike.Goals as goal

pub returns : goal.returns
returns c = same_tree_decided c.same.result (tree c.args.a.now) (tree c.args.b.now) c.same.ensures
