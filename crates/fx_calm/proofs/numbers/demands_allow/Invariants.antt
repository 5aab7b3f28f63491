use Rattle.std.proofs.Common.{◌≡◌, take, true}
use Rattle.std.specs.List.{list_all}
use Rattle.fx_plan_laws.specs.Demands.{allows}
use Rattle.fx_calm.proofs.numbers.demands_allow.Given as goal

abbrev pub invariant-loop-j : goal.invariant-loop-j
invariant-loop-j l = list_all (λ d. allows d l.fn.z) (take l.j l.fn.function.demands) ≡ true
