use Rattle.fx_node.proofs.Apart.{apart}
use Rattle.fx_node.proofs.law.units_apart_law.Goals as goal

pub returns : goal.returns
returns c = apart
