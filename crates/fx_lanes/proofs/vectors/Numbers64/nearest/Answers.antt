use Rattle.std.specs.Int.{w64}
use Rattle.fx_lanes.proofs.Shifts as shifts
use Rattle.fx_lanes.proofs.vectors.Numbers64.nearest.Goals as goal

pub returns : goal.returns
returns c =
    let twice = c.lowered-twice.ensures in
    shifts.nearest_is w64 c.args.s c.requires.low c.args.self twice.fits twice.lowered c.lowered.ensures.lowered
    c.minus.ensures
