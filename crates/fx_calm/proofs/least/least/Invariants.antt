use Rattle.fx_calm.specs.LimitOf.{IsLeast}
use Rattle.fx_calm.proofs.least.least.Given as goal

abbrev pub invariant-loop-i : goal.invariant-loop-i
invariant-loop-i l = IsLeast l.fn.function l.fn.limit l.fn.first l.fn.last l.i l.w
