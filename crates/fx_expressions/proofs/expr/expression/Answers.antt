use Rattle.fx_expressions.specs.Views.{known_in}
use Rattle.fx_grammar.proofs.Expressions.{expr_is}
use Rattle.fx_expressions.proofs.expr.expression.Goals as goal

pub returns-clause-value : goal.returns-clause-value
returns-clause-value c = rw (expr_is (known_in c.args.context.now) c.args.outside 200) c.sum.ensures.value
