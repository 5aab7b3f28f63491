use Rattle.std.proofs.Common.{◌≡◌, length}
use Rattle.fx_lanes.proofs.step.LaneRegisters.new.Given as goal

abbrev pub invariant-loop : goal.invariant-loop
invariant-loop g l = length l.words.items ≡ l.counter
