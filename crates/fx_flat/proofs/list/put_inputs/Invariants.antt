use Rattle.std.proofs.Common.{◌≡◌, ◌++◌}
use Rattle.fx_model.specs.Nodes.{inputs_from}
use Rattle.fx_flat.specs.NodeOf.{nodes_in}
use Rattle.fx_flat.proofs.list.put_inputs.Given as goal

abbrev pub invariant-loop-k : goal.invariant-loop-k
invariant-loop-k l = nodes_in l.list.items ≡ nodes_in l.fn.list.items ++ inputs_from 0 l.k
