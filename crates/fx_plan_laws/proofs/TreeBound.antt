-- The bound of a linear tree, as those of its nodes come to.
use Rattle.std.specs.Prelude.{List}
use Rattle.fx_model.specs.Tree as tree
use Rattle.fx_model.specs.Tree.{Tree, at}
use Rattle.fx_model.specs.Function as function
use Rattle.fx_inequalities.specs.NodeConditions.{no_input}
use Rattle.fx_plan_laws.specs.Bounds.{Bound, no_bound, state_bound, input_bound, const_bound, sum_bound, product_bound}
use Rattle.fx_plan_laws.specs.Calm.{Numbers}

abbrev pub tree_bound : Numbers → List function.Input → Tree → Bound
tree_bound c is (tree.Literal x) = const_bound c.f x
tree_bound c is (tree.Input k) = input_bound c.f (at no_input is k)
tree_bound c is (tree.State k) = state_bound c
tree_bound c is (tree.Temp k) = no_bound
tree_bound c is (tree.Negation a) = tree_bound c is a
tree_bound c is (tree.Sum a b) = sum_bound (tree_bound c is a) (tree_bound c is b)
tree_bound c is (tree.Difference a b) = sum_bound (tree_bound c is a) (tree_bound c is b)
tree_bound c is (tree.Product a b) = product_bound c.f (tree_bound c is a) (tree_bound c is b)
tree_bound c is (tree.Quotient a b) = no_bound
