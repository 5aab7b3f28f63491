use Rattle.std.proofs.Common.{◌∙◌, ap, sym, subst}
use Rattle.std.specs.Prelude.{All}
use Rattle.std.specs.Option.{option_map}
use Rattle.fx_flat.specs.NodeOf.{nodes_in}
use Rattle.fx_plan_laws.specs.Narrow.{IsNarrowNode}
use Rattle.fx_weight.specs.Laws.{IsPlainFunction}
use Rattle.fx_weight.specs.ObstacleView.{obstacle_view}
use Rattle.fx_weight.proofs.Demands.{in_class}
use Rattle.fx_weight.proofs.Tight.{obstacle_by_demand}
use Rattle.fx_weight.proofs.class.find_obstacle.Goals as goal

pub returns-in-Ok-clause-class : goal.returns-in-Ok-clause-class
returns-in-Ok-clause-class c = λ none.
    let fn = c.args.function.now in
    let plain : IsPlainFunction fn = record {
      lawful = c.keeps.ensures;
      narrow_inputs = c.narrow_inputs.ensures;
      narrow_literals = subst (All IsNarrowNode) (ap nodes_in c.as_slice.ensures
          ∙ c.in_ok-nodes.ensures.list) c.in-Ok.ensures.narrow;
    } in
    in_class c.args.width fn plain (c.tight_demand.ensures.narrow none)
    (sym (obstacle_by_demand c.args.width fn
    (option_map obstacle_view c.tight_demand.result) c.in-Ok.ensures.modest c.tight_demand.ensures.value)
    ∙ ap (option_map obstacle_view) none)
