use Rattle.std.proofs.Common.{◌≡◌, map, take}
use Rattle.fx_expr.specs.Parts as parts
use Rattle.fx_requirements.specs.Views.{demand_value}
use Rattle.fx_parser.proofs.owned.owned_demands.Given as goal

abbrev pub invariant-loop-demanded : goal.invariant-loop-demanded
invariant-loop-demanded l = map parts.demand_of l.owned.items ≡ map demand_value (take l.demanded-index l.demands)
