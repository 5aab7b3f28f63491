use Rattle.std.proofs.Common.{◌≤◌}
use Rattle.fx_calm.proofs.Leasts.{NoneBefore}
use Rattle.fx_calm.proofs.least.least_at.Given as goal

abbrev pub invariant-loop-w : goal.invariant-loop-w
invariant-loop-w l = (l.fn.first ≤ l.w) × NoneBefore l.fn.function l.fn.limit l.fn.i l.fn.first l.w
