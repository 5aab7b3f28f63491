use Rattle.std.proofs.Common.{ℕ, ◌<◌}
use Rattle.fx_model.specs.Tree.{at}
use Rattle.fx_model.specs.Function.{free}
use Rattle.fx_plan_laws.specs.Narrow.{IsNarrowDemand}
use Rattle.fx_calm.proofs.narrow.narrow_demands.Given as goal

abbrev pub invariant-loop-j : goal.invariant-loop-j
invariant-loop-j l = (i : ℕ) → i < l.j → IsNarrowDemand (at free l.fn.function.demands i)
