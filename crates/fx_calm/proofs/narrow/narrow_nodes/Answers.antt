use Rattle.std.proofs.Common.{subst}
use Rattle.std.specs.Prelude.{All}
use Rattle.std.proofs.lemmas.List.{length-map, take_all}
use Rattle.fx_flat.specs.NodeOf.{node_of, nodes_in}
use Rattle.fx_plan_laws.specs.Narrow.{IsNarrowNode}
use Rattle.fx_weight.proofs.NarrowNodes.{narrow_more}
use Rattle.fx_calm.proofs.narrow.narrow_nodes.Goals as goal

pub loop-i-preserved : goal.loop-i-preserved
loop-i-preserved c =
    narrow_more c.args.nodes.now c.loop-i.i c.index-nodes-i.result c.loop-i-test.true c.index-nodes-i.is
    c.loop-i.invariant c.narrow_node.ensures

pub returns : goal.returns
returns c =
    let past = c.loop-i-test.false in
    subst (All IsNarrowNode)
    (take_all c.loop-i.i (nodes_in c.args.nodes.now)
    (rw (length-map c.args.nodes.now node_of) past)) c.loop-i.invariant
