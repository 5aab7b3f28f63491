use Rattle.fx_analysis.proofs.Planned.{whole_list}
use Rattle.fx_worked.proofs.analysis.a_plan_after_a_step.Goals as goal

pub points-requires-clause-nodes : goal.points-requires-clause-nodes
points-requires-clause-nodes g c =
    let e = c.in_ok-nodes.ensures in whole_list _ c.in_ok-nodes.nodes c.keeps.ensures e.list e.inputs e.states
