use Rattle.std.proofs.Common.{◌-ℤ◌}
use Rattle.std.specs.Int.{w32}
use Rattle.fx_lanes.proofs.Lanewise.{combined_are, combined_is, wrapped_difference}
use Rattle.fx_lanes.proofs.narrow.NarrowLanesSideBySide.sub_shifted.Goals as goal

pub invariant_of-result : goal.invariant_of-result
invariant_of-result g c =
    search (combined_are g.row.B w32 c.requires.room.most ◌-ℤ◌ (wrapped_difference w32) c.args.sa c.args.sb)

pub returns : goal.returns
returns g c = search (combined_is g.row.B w32 c.requires.room.most ◌-ℤ◌ (wrapped_difference w32) c.args.sa c.args.sb)
