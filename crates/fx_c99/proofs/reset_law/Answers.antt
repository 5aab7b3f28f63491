use Rattle.fx_c99.proofs.Resets.{reset_is}
use Rattle.fx_c99.proofs.reset_law.Goals as goal

pub returns : goal.returns
returns c = reset_is
