-- What contracts see of an expression: its tree, without the places of its boxes.
use Rattle.fx_model.specs.Tree as model
use Rattle.fx_model.specs.Tree.{Tree}
use Rattle.fx_expr.specs.declared.expr.Expr.{Expr}
use Rattle.fx_expr.specs.declared.expr.Expr.TheVariants.{Lit, Input, State, Temp, Neg', Add', Sub', Mul', Div'}

-- the tree of an expression
abbrev pub tree : Expr → Tree
tree (Lit c) = model.Literal c
tree (Input k) = model.Input k
tree (State k) = model.State k
tree (Temp k) = model.Temp k
tree (Neg' p a) = model.Negation (tree a)
tree (Add' p a q b) = model.Sum (tree a) (tree b)
tree (Sub' p a q b) = model.Difference (tree a) (tree b)
tree (Mul' p a q b) = model.Product (tree a) (tree b)
tree (Div' p a q b) = model.Quotient (tree a) (tree b)
