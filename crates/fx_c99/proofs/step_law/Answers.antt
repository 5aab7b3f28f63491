use Rattle.fx_c99.proofs.Steps.{step_is}
use Rattle.fx_c99.proofs.step_law.Goals as goal

pub returns : goal.returns
returns c = step_is
