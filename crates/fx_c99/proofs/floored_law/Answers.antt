use Rattle.fx_c99.proofs.Rounded.{floored_is}
use Rattle.fx_c99.proofs.floored_law.Goals as goal

pub returns : goal.returns
returns c = floored_is
