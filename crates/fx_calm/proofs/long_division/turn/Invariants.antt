use Rattle.std.proofs.Common.{◌*◌, ◌^◌, ◌≤◌}
use Rattle.fx_calm.proofs.Turned.{IsTurned}
use Rattle.fx_calm.proofs.long_division.turn.Given as goal

abbrev pub invariant-loop-i : goal.invariant-loop-i
invariant-loop-i l = IsTurned l.c l.i l.fn.summands l.summands l.s × (l.s ≤ l.i * 2 ^ 62)
