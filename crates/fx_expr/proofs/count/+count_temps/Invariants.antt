use Rattle.std.proofs.Common.{length}
use Rattle.fx_expr.proofs.count.+count_temps.Given as goal

abbrev pub decreases-count_temps : goal.decreases-count_temps
decreases-count_temps l = length l.temps.now
