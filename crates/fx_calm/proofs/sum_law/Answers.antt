use Rattle.fx_calm.proofs.Division.{sums_are}
use Rattle.fx_calm.proofs.sum_law.Goals as goal

pub returns : goal.returns
returns c = sums_are
