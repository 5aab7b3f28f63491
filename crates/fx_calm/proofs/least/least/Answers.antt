use Rattle.fx_calm.proofs.Leasts.{least_more}
use Rattle.fx_calm.proofs.least.least.Goals as goal

pub loop-i-preserved : goal.loop-i-preserved
loop-i-preserved c =
    least_more c.args.function.now c.args.limit c.args.first c.args.last c.loop-i.i c.loop-i.w c.in_ok-w.w
    c.loop-i.invariant c.in_ok-w.ensures
