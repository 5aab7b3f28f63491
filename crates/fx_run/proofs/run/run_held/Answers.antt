use Rattle.std.specs.Prelude.{None, [], ◌++◌}
use Rattle.fx_model.specs.Page.{line_of, names_from}
use Rattle.fx_rows.specs.Faults.{row_fault_of}
use Rattle.fx_stream.specs.Printed.{lines_outcome}
use Rattle.fx_stream.proofs.Ending.{ends-told}
use Rattle.fx_run.specs.Blocks.{first_rows}
use Rattle.fx_run.specs.Printed.{run_outcome}
use Rattle.fx_run.specs.Steps.{lines_from}
use Rattle.fx_run.proofs.Blocks.{held_outcome_is}
use Rattle.fx_run.proofs.run.run_held.Goals as goal

pub returns : goal.returns
returns g c =
    let s = c.in-Ok.step in let a = s.certified.now in let b = c.args.certified.now in
    ends-told row_fault_of (λ ls. lines_outcome a.function (line_of (names_from 1 a.program.outputs))
    (λ rows. lines_from a.program (first_rows a.program.inputs s.held s.rows.items ++ rows) []) None ls)
    (run_outcome b.function b.program)
    (held_outcome_is a b s.held s.rows.items c.in-Ok.ensures.whose c.in-Ok.ensures.none_held c.in-Ok.ensures.start
    c.rows_law.ensures) _ _ _ _ c.run_steps.ensures
