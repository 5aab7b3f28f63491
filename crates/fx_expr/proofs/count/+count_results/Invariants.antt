use Rattle.std.proofs.Common.{length}
use Rattle.fx_expr.proofs.count.+count_results.Given as goal

abbrev pub decreases-count_results : goal.decreases-count_results
decreases-count_results l = length l.results.now
