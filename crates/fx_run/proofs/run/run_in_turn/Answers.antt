use Rattle.std.specs.Prelude.{None}
use Rattle.fx_model.specs.Page.{line_of, names_from}
use Rattle.fx_rows.specs.Faults.{row_fault_of}
use Rattle.fx_stream.specs.Printed.{lines_outcome}
use Rattle.fx_stream.proofs.Ending.{ends-told}
use Rattle.fx_run.specs.Printed.{run_outcome}
use Rattle.fx_run.specs.Steps.{lines_from}
use Rattle.fx_run.proofs.Honest.{outcome_is}
use Rattle.fx_run.proofs.run.run_in_turn.Goals as goal

pub returns : goal.returns
returns g c =
    let a = c.in-Ok.step.certified.now in let b = c.args.certified.now in let z = c.in-Ok.step.registers.states in
    ends-told row_fault_of (λ ls. lines_outcome a.function (line_of (names_from 1 a.program.outputs))
    (λ rows. lines_from a.program rows z) None ls) (run_outcome b.function b.program)
    (outcome_is a b z c.in-Ok.ensures.whose c.in-Ok.ensures.start c.rows_law.ensures) _ _ _ _ c.run_steps.ensures
