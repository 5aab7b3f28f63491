use Rattle.std.proofs.Common.{◌≡◌, ◌++◌, map}
use Rattle.std.specs.List.{All}
use Rattle.std.specs.Vec.Iter.{into_iter_items}
use Rattle.fx_model.specs.Names.{IsName}
use Rattle.fx_expr.specs.Parts as parts
use Rattle.fx_parser.specs.Views.{temp_value}
use Rattle.fx_parser.proofs.owned.owned_temps.Given as goal

abbrev pub invariant-loop-temp : goal.invariant-loop-temp
invariant-loop-temp l =
    (goal.iterator-loop-temp).can_next l.temp-iterator ×
    (goal.iterator-loop-temp).is_finite l.temp-iterator ×
    All (λ t. IsName t.name.now) (into_iter_items l.temp-iterator) ×
    (map parts.temp_of l.owned.items ++ map temp_value (into_iter_items l.temp-iterator)
    ≡ map temp_value l.fn.temps.items)
