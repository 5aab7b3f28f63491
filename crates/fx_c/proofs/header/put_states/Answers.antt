use Rattle.fx_model.specs.Machine.{Program}
use Rattle.fx_c99.specs.CHeader.{state_group}
use Rattle.fx_c.proofs.HeaderPieces.{group_more}
use Rattle.fx_c.proofs.header.put_states.Goals as goal

pub loop-k-preserved : goal.loop-k-preserved
loop-k-preserved c =
    group_more (state_group c.args.function.now c.args.program.now) (λ (p : Program). p.states) c.loop-k.k
    c.args.out.now.items c.loop-k.out.items c.put_state.new.out.items c.program.view_is c.loop-k-test.true
    c.in_ok-put_state.ensures c.loop-k.invariant
