use Rattle.std.proofs.Common.{refl, subst}
use Rattle.fx_model.proofs.Lists.{seen_at}
use Rattle.fx_flat.specs.NodeOf.{node_of, nodes_in}
use Rattle.fx_program.specs.CodeView.{round_of, code_of}
use Rattle.fx_plan_laws.specs.CalmPlan.{calm_code}
use Rattle.fx_calm.specs.BoundOf.{HasWord}
use Rattle.fx_calm.proofs.Templates.{pushed_view}
use Rattle.fx_calm.proofs.code.codes.Goals as goal

pub code-requires-clause-word : goal.code-requires-clause-word
code-requires-clause-word c =
    let s =
    seen_at node_of c.args.nodes.now
    (nodes_in c.args.nodes.now) c.loop-i.i c.index-nodes-i.result refl c.loop-i-test.true c.index-nodes-i.is in
    subst (HasWord c.args.function.now c.args.f) s.1 (c.requires.words c.loop-i.i (node_of c.index-nodes-i.result) s.0)

pub loop-i-preserved : goal.loop-i-preserved
loop-i-preserved c =
    let s =
    seen_at node_of c.args.nodes.now
    (nodes_in c.args.nodes.now) c.loop-i.i c.index-nodes-i.result refl c.loop-i-test.true c.index-nodes-i.is in
    pushed_view code_of (calm_code (round_of c.args.round) c.args.function.now c.args.f)
    (nodes_in c.args.nodes.now) c.loop-i.i
    (node_of c.index-nodes-i.result) c.loop-i.codes.items c.push.new.self.items c.code.result s.0 s.1
    c.loop-i.invariant c.code.ensures c.in_ok-push.ensures.items
