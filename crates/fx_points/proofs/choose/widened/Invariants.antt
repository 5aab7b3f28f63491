use Rattle.std.proofs.Common.{◌≡◌, length}
use Rattle.fx_points.proofs.choose.widened.Given as goal

abbrev pub invariant-loop-point : goal.invariant-loop-point
invariant-loop-point l = length l.wide.items ≡ l.point-index
