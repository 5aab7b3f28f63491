use Rattle.std.proofs.Common.{ℕ, ◌<◌}
use Rattle.fx_inequalities.specs.Accepted.{start_of}
use Rattle.fx_plan_laws.specs.Narrow.{IsNarrowNumber}
use Rattle.fx_calm.proofs.narrow.narrow_states.Given as goal

abbrev pub invariant-loop-k : goal.invariant-loop-k
invariant-loop-k l = (j : ℕ) → j < l.k → IsNarrowNumber (start_of l.fn.function j)
