use Rattle.std.proofs.Common.{◌≡◌, take, true}
use Rattle.std.specs.List.{list_all}
use Rattle.fx_plan_laws.specs.Calm.{is_short}
use Rattle.fx_calm.proofs.numbers.are_short.Given as goal

abbrev pub invariant-loop-k : goal.invariant-loop-k
invariant-loop-k l = list_all is_short (take l.k l.fn.function.results) ≡ true
