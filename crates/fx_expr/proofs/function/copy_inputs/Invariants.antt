use Rattle.std.proofs.Common.{◌≡◌, take, map}
use Rattle.fx_expr.specs.Parts.{input_of}
use Rattle.fx_expr.proofs.function.copy_inputs.Given as goal

abbrev pub invariant-loop-input : goal.invariant-loop-input
invariant-loop-input l = map input_of l.copies.items ≡ map input_of (take l.input-index l.inputs)
