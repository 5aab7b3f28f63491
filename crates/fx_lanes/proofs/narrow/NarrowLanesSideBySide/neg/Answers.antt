use Rattle.std.specs.Int.{w32}
use Rattle.fx_lanes.proofs.Lanewise.{negated_are, negated_is}
use Rattle.fx_lanes.proofs.narrow.NarrowLanesSideBySide.neg.Goals as goal

pub invariant_of-result : goal.invariant_of-result
invariant_of-result g c = search (negated_are g.row.B w32 c.requires.room.most)

pub returns : goal.returns
returns g c = search (negated_is g.row.B w32 c.requires.room.most)
