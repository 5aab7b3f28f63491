use Rattle.std.proofs.Common.{ap, ◌∙◌}
use Rattle.std.specs.Prelude.{None}
use Rattle.fx_model.specs.Page.{line_of, names_from}
use Rattle.fx_rows.specs.Faults.{row_fault_of}
use Rattle.fx_stream.specs.Printed.{lines_outcome}
use Rattle.fx_stream.proofs.Ending.{ends-told}
use Rattle.fx_run.specs.Printed.{run_outcome}
use Rattle.fx_run.specs.Steps.{lines_from}
use Rattle.fx_run.proofs.Honest.{outcome_is}
use Rattle.fx_mixed.specs.Mixing.{Mixing, states_among}
use Rattle.fx_mixed.proofs.Starts.{first_states}
use Rattle.fx_mixed.proofs.run.run_mixed.Goals as goal

pub returns-clause-ends : goal.returns-clause-ends
returns-clause-ends g c =
    let a = c.in-Ok.mixed.accepted in let b = c.args.certified.now in
    let z = states_among a.program c.in-Ok.mixed.words in
    ends-told row_fault_of (λ ls. lines_outcome a.function (line_of (names_from 1 a.program.outputs))
    (λ rows. lines_from a.program rows z) None ls) (run_outcome b.function b.program)
    (outcome_is a b z (ap (λ (m : Mixing). m.accepted) c.in-Ok.ensures)
    (ap (λ (m : Mixing). states_among m.accepted.program m.words) c.in-Ok.ensures
    ∙ first_states b.program c.certified.ensures.certified.program) c.rows_law.ensures) _ _ _ _ c.run_steps.ensures
