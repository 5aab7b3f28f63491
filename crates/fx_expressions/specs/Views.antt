-- What the values of the code stand for.
use Rattle.std.specs.Option.{option_map}
use Rattle.fx_expr.specs.TreeOf.{tree}
use Rattle.fx_grammar.specs.Operands as operands
use Rattle.fx_grammar.specs.Expressions.{Known}
use Rattle.fx_expressions.specs.declared.operand.Operand.{Operand}
use Rattle.fx_expressions.specs.declared.operand.Context.{Context}

abbrev pub operand_of : Operand → operands.Operand
operand_of x = record { tree = option_map tree x.expr; height = x.height; nodes = x.nodes }

abbrev pub known_in : Context → Known
known_in c = record { names = c.names.now; inputs = c.inputs; states = c.states; end = c.end }
