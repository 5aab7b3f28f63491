use Rattle.std.proofs.Common.{◌≡◌, length}
use Rattle.fx_points.proofs.attempt.best_points.Given as goal

abbrev pub invariant-loop-entry : goal.invariant-loop-entry
invariant-loop-entry l = length l.points.items ≡ l.entry-index
