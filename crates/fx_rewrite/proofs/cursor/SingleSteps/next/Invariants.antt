use Rattle.std.proofs.Common.{◌≡◌, length}
use Rattle.fx_rewrite.specs.Ahead.{ahead}
use Rattle.fx_rewrite.specs.Left.{left}
use Rattle.fx_rewrite.proofs.cursor.SingleSteps.next.Given as goal

abbrev pub invariant-loop-whole : goal.invariant-loop-whole
invariant-loop-whole l = left l.self ≡ left l.initial.self

abbrev pub decreases-loop-whole : goal.decreases-loop-whole
decreases-loop-whole l = length (ahead l.self.function.now l.self.place l.self.path.items 1)
