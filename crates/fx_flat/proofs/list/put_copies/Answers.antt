use Rattle.std.proofs.Common.{◌≡◌, ◌+◌, ◌++◌, ◌∷◌, [], take, get_or}
use Rattle.fx_model.specs.Nodes.{copies_of}
use Rattle.fx_flat.specs.declared.node.Node.TheVariants.{Copy}
use Rattle.fx_flat.specs.NodeOf.{nodes_in}
use Rattle.fx_flat.proofs.Growth.{copies_one_more}
use Rattle.fx_flat.proofs.Pushing.{pushed_nodes}
use Rattle.fx_flat.proofs.list.put_copies.Goals as goal

pub loop-a-preserved : goal.loop-a-preserved
loop-a-preserved c =
    let items : c.push.new.self.items ≡ c.loop-a.list.items ++ Copy (get_or c.args.roots.now c.loop-a.a-index 0) ∷ [] =
    c.in_ok-push.ensures.items in
    rw items (pushed_nodes c.loop-a.list.items (Copy (get_or c.args.roots.now c.loop-a.a-index 0))
    (nodes_in c.args.list.now.items) (copies_of (take c.loop-a.a-index c.args.roots.now))
    (copies_of (take (c.loop-a.a-index + 1) c.args.roots.now)) c.loop-a.invariant
    (copies_one_more c.args.roots.now c.loop-a.a-index 0 c.loop-a-test.true))
