use Rattle.fx_model.specs.Machine.{Program}
use Rattle.fx_c99.specs.CHeader.{output_group}
use Rattle.fx_c.proofs.HeaderPieces.{group_more}
use Rattle.fx_c.proofs.header.put_outputs.Goals as goal

pub loop-j-preserved : goal.loop-j-preserved
loop-j-preserved c =
    group_more (output_group c.args.program.now c.args.bounds.now) (λ (p : Program). p.outputs) c.loop-j.j
    c.args.out.now.items c.loop-j.out.items c.put_output.new.out.items c.program.view_is c.loop-j-test.true
    c.in_ok-put_output.ensures c.loop-j.invariant
