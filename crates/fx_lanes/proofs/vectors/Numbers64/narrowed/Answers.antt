use Rattle.fx_lanes.proofs.Operators as operators
use Rattle.fx_lanes.proofs.vectors.Numbers64.narrowed.Goals as goal

pub overflow_cast-result : goal.overflow_cast-result
overflow_cast-result c = operators.narrow_fits c.self.view_is c.requires

pub invariant_of-result : goal.invariant_of-result
invariant_of-result c = (operators.narrowed c.self.view_is c.self.invariant.many c.requires).are

pub returns : goal.returns
returns c = (operators.narrowed c.self.view_is c.self.invariant.many c.requires).is
