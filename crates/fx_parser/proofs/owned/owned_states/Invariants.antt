use Rattle.std.proofs.Common.{◌≡◌, map, take}
use Rattle.fx_expr.specs.Parts as parts
use Rattle.fx_parser.specs.Views.{state_value}
use Rattle.fx_parser.proofs.owned.owned_states.Given as goal

abbrev pub invariant-loop-state : goal.invariant-loop-state
invariant-loop-state l = map parts.state_of l.owned.items ≡ map state_value (take l.state-index l.states)
