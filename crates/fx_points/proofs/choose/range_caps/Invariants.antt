use Rattle.std.proofs.Common.{◌≡◌, length}
use Rattle.fx_points.proofs.choose.range_caps.Given as goal

abbrev pub invariant-loop-fact : goal.invariant-loop-fact
invariant-loop-fact l = length l.caps.items ≡ l.fact-index
