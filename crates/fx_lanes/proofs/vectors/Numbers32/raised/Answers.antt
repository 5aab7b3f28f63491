use Rattle.std.specs.Int.{w32}
use Rattle.fx_lanes.proofs.Operators as operators
use Rattle.fx_lanes.proofs.vectors.Numbers32.raised.Goals as goal

pub invariant_of-result : goal.invariant_of-result
invariant_of-result c = (operators.raised w32 c.args.s c.requires c.self.view_is c.self.invariant).are

pub returns : goal.returns
returns c = (operators.raised w32 c.args.s c.requires c.self.view_is c.self.invariant).is
