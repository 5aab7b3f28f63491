use Rattle.std.proofs.Common.{◌∙◌}
use Rattle.std.specs.Int.{w64}
use Rattle.fx_lanes.proofs.Operators as operators
use Rattle.fx_lanes.proofs.vectors.Numbers64.array.Goals as goal

pub returns : goal.returns
returns c = operators.taken_out w64 c.self.inside.lanes c.self.invariant.fits ∙ c.self.view_is
