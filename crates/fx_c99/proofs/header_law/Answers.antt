use Rattle.fx_c99.proofs.Says.{header_says}
use Rattle.fx_c99.proofs.header_law.Goals as goal

pub returns : goal.returns
returns c = header_says c.start_law.ensures c.step_law.ensures
