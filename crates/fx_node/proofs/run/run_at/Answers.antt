use Rattle.std.specs.Prelude.{option_map}
use Rattle.fx_stream.proofs.Ending.{ends-told}
use Rattle.fx_node.specs.Faults.{flaw_of}
use Rattle.fx_node.specs.NodePage.{node_outcome}
use Rattle.fx_node.specs.Steps.{node_columns, units_outcome}
use Rattle.fx_node.proofs.Start.{outcome_is}
use Rattle.fx_node.proofs.run.run_at.Goals as goal

pub returns : goal.returns
returns g c =
    let a = c.args.certified.now in let s = c.in-Ok.printer in
    ends-told flaw_of (units_outcome s.node (option_map node_columns s.reader))
    (node_outcome a.function a.program c.args.units)
    (outcome_is a c.args.units s.node s.reader c.in-Ok.ensures.node c.in-Ok.ensures.before c.units_law.ensures) _ _ _ _
    c.run_lines.ensures
