use Rattle.std.proofs.Common.{length}
use Rattle.fx_rewrite.proofs.successor.+turning.Given as goal

abbrev pub decreases-turning : goal.decreases-turning
decreases-turning l = length l.path.now
