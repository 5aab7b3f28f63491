use Rattle.fx_node.proofs.Apart.{one_run}
use Rattle.fx_node.proofs.law.unit_run_law.Goals as goal

pub returns : goal.returns
returns c = one_run
