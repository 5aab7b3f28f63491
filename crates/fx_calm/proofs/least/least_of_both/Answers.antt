use Rattle.fx_calm.proofs.Leasts.{both_ok}
use Rattle.fx_calm.proofs.least.least_of_both.Goals as goal

pub returns : goal.returns
returns c =
    both_ok c.args.function.now c.args.one c.args.other c.args.first c.args.last c.in_ok-w.w c.least-2.result
    c.in_ok-w.ensures c.least-2.ensures
