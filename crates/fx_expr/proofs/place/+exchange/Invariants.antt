use Rattle.std.proofs.Common.{length}
use Rattle.fx_expr.proofs.place.+exchange.Given as goal

abbrev pub decreases-exchange : goal.decreases-exchange
decreases-exchange l = length l.path.now
