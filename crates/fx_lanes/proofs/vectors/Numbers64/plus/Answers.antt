use Rattle.fx_lanes.proofs.Operators as operators
use Rattle.fx_lanes.proofs.vectors.Numbers64.plus.Goals as goal

pub invariant_of-result : goal.invariant_of-result
invariant_of-result c = (operators.sums c.self.view_is c.other.view_is c.self.invariant c.other.invariant).are

pub returns : goal.returns
returns c = (operators.sums c.self.view_is c.other.view_is c.self.invariant c.other.invariant).is
