use Rattle.std.proofs.Common.{◌≡◌, [], drop, length}
use Rattle.fx_model.specs.Nodes.{nodes_after, nodes_of}
use Rattle.fx_flat.specs.NodeOf.{nodes_in}
use Rattle.fx_flat.proofs.list.put_results.Given as goal

abbrev pub invariant-loop-result : goal.invariant-loop-result
invariant-loop-result l =
    nodes_after (length l.function.inputs) [] (drop l.result-index l.function.results) l.temps l.roots.items
    (nodes_in l.list.items) ≡ nodes_of l.function
