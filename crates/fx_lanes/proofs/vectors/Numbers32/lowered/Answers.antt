use Rattle.std.specs.Int.{w32}
use Rattle.fx_lanes.proofs.Operators as operators
use Rattle.fx_lanes.proofs.vectors.Numbers32.lowered.Goals as goal

pub invariant_of-result : goal.invariant_of-result
invariant_of-result c = (operators.lowered w32 c.args.s c.self.view_is c.self.invariant).are

pub returns : goal.returns
returns c =
    let l = operators.lowered w32 c.args.s c.self.view_is c.self.invariant in record { lowered = l.is; fits = l.fits }
