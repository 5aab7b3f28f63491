use Rattle.std.proofs.Common.{◌≡◌, length}
use Rattle.fx_points.proofs.attempt.entries.Given as goal

abbrev pub invariant-loop-n : goal.invariant-loop-n
invariant-loop-n l = length l.entries.items ≡ l.n
