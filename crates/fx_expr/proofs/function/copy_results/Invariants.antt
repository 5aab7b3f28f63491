use Rattle.std.proofs.Common.{◌≡◌, take, map}
use Rattle.fx_expr.specs.TreeOf.{tree}
use Rattle.fx_expr.proofs.function.copy_results.Given as goal

abbrev pub invariant-loop-expr : goal.invariant-loop-expr
invariant-loop-expr l = map tree l.copies.items ≡ map tree (take l.expr-index l.results)
