use Rattle.fx_node.proofs.Given.{events_in_range}
use Rattle.fx_node.proofs.law.events_in_range_law.Goals as goal

pub returns : goal.returns
returns c = events_in_range
