use Rattle.std.proofs.Common.{◌≡◌, ◌≤◌, take}
use Rattle.fx_calm.specs.Summands.{left}
use Rattle.fx_calm.proofs.long_division.left.Given as goal

abbrev pub invariant-loop-i : goal.invariant-loop-i
invariant-loop-i l = (l.count ≡ left (take l.i l.fn.summands)) × (l.count ≤ l.i)
