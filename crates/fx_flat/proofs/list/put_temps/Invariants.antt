use Rattle.std.proofs.Common.{◌≡◌, [], drop, length}
use Rattle.fx_model.specs.Nodes.{nodes_after, nodes_of}
use Rattle.fx_flat.specs.NodeOf.{nodes_in}
use Rattle.fx_flat.proofs.list.put_temps.Given as goal

abbrev pub invariant-loop-temp : goal.invariant-loop-temp
invariant-loop-temp l = record {
  count : length l.temps.items ≡ l.temp-index;
  rest : nodes_after (length l.function.inputs) (drop l.temp-index l.function.temps) l.function.results l.temps.items []
      (nodes_in l.list.items) ≡ nodes_of l.function;
}
