use Rattle.std.specs.Int.{w64}
use Rattle.fx_lanes.proofs.Lanewise.{copied_are, copied_is}
use Rattle.fx_lanes.proofs.wide.WideLanesSideBySide.copy_shift.Goals as goal

pub invariant_of-result : goal.invariant_of-result
invariant_of-result g c = search (copied_are g.row.B w64 c.requires.room.most c.args.s)

pub returns : goal.returns
returns g c = search (copied_is g.row.B w64 c.requires.room.most c.args.s)
