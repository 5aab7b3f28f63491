use Rattle.std.proofs.Common.{length}
use Rattle.fx_expr.proofs.place.+at.Given as goal

abbrev pub decreases-at : goal.decreases-at
decreases-at l = length l.path.now
