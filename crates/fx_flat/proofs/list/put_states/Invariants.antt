use Rattle.std.proofs.Common.{◌≡◌, ◌++◌}
use Rattle.fx_model.specs.Nodes.{states_from}
use Rattle.fx_flat.specs.NodeOf.{nodes_in}
use Rattle.fx_flat.proofs.list.put_states.Given as goal

abbrev pub invariant-loop-k : goal.invariant-loop-k
invariant-loop-k l = nodes_in l.list.items ≡ nodes_in l.fn.list.items ++ states_from 0 l.k
