use Rattle.std.proofs.Common.{take}
use Rattle.std.specs.Prelude.{All}
use Rattle.fx_flat.specs.NodeOf.{nodes_in}
use Rattle.fx_plan_laws.specs.Narrow.{IsNarrowNode}
use Rattle.fx_calm.proofs.narrow.narrow_nodes.Given as goal

abbrev pub invariant-loop-i : goal.invariant-loop-i
invariant-loop-i l = All IsNarrowNode (take l.i (nodes_in l.fn.nodes))
