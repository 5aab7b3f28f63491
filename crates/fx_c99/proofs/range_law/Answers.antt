use Rattle.fx_c99.proofs.InputRanges.{range_is}
use Rattle.fx_c99.proofs.range_law.Goals as goal

pub returns : goal.returns
returns c = range_is
