use Rattle.fx_c99.proofs.Resets.{reset_is}
use Rattle.fx_c99.proofs.Steps.{run_is}
use Rattle.fx_c99.proofs.run_law.Goals as goal

pub returns : goal.returns
returns c = run_is reset_is
