use Rattle.fx_lanes.proofs.Filled.{AreQuotients}
use Rattle.fx_lanes.proofs.lane_by_lane.quotients.Given as goal

abbrev pub invariant-loop-k : goal.invariant-loop-k
invariant-loop-k g l = AreQuotients l.s l.v l.w l.k l.words
