use Rattle.std.proofs.Common.{◌≡◌, take, map}
use Rattle.fx_expr.specs.Parts.{state_of}
use Rattle.fx_expr.proofs.function.copy_states.Given as goal

abbrev pub invariant-loop-state : goal.invariant-loop-state
invariant-loop-state l = map state_of l.copies.items ≡ map state_of (take l.state-index l.states)
