use Rattle.fx_model.specs.Machine.{Program}
use Rattle.fx_c99.specs.CHeader.{input_group}
use Rattle.fx_c.proofs.HeaderPieces.{group_more}
use Rattle.fx_c.proofs.header.put_inputs.Goals as goal

pub loop-k-preserved : goal.loop-k-preserved
loop-k-preserved c =
    group_more (input_group c.args.function.now c.args.program.now) (λ (p : Program). p.inputs) c.loop-k.k
    c.args.out.now.items c.loop-k.out.items c.put_input.new.out.items c.program.view_is c.loop-k-test.true
    c.in_ok-put_input.ensures c.loop-k.invariant
