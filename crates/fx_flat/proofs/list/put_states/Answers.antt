use Rattle.std.proofs.Common.{◌≡◌, ◌+◌, ◌++◌, ◌∷◌, []}
use Rattle.fx_model.specs.Nodes.{states_from}
use Rattle.fx_flat.specs.declared.node.Node.TheVariants.{State}
use Rattle.fx_flat.specs.NodeOf.{nodes_in}
use Rattle.fx_flat.proofs.Growth.{states_one_more}
use Rattle.fx_flat.proofs.Pushing.{pushed_nodes}
use Rattle.fx_flat.proofs.list.put_states.Goals as goal

pub loop-k-preserved : goal.loop-k-preserved
loop-k-preserved c =
    let items : c.push.new.self.items ≡ c.loop-k.list.items ++ State c.loop-k.k ∷ [] = c.in_ok-push.ensures.items in
    rw items (pushed_nodes c.loop-k.list.items (State c.loop-k.k) (nodes_in c.args.list.now.items) (states_from 0 c.loop-k.k)
    (states_from 0 (c.loop-k.k + 1)) c.loop-k.invariant (states_one_more c.loop-k.k))
