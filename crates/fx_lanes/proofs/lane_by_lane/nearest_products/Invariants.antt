use Rattle.fx_model.specs.Machine.{Nearest}
use Rattle.fx_lanes.proofs.Filled.{AreProducts}
use Rattle.fx_lanes.proofs.lane_by_lane.nearest_products.Given as goal

abbrev pub invariant-loop-k : goal.invariant-loop-k
invariant-loop-k g l = AreProducts Nearest l.s l.v l.w l.k l.words
