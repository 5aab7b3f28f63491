use Rattle.fx_machine.specs.Steps.{step_taken}
use Rattle.fx_run.specs.Steps.{step_line}
use Rattle.fx_run.proofs.Honest.{line_next}
use Rattle.fx_run.proofs.step.CertifiedStepRowStep.put_row.Goals as goal

pub returns-clause-put : goal.returns-clause-put
returns-clause-put g c =
    let p = c.args.self.now.certified.now.program in let made = c.run_row.new.registers in
    let s = step_taken p made.words in (
      step_line p s,
      c.run_row.ensures.line,
      line_next p c.args.row.now c.args.self.now.registers.states made.states s c.run_row.ensures.step
          c.run_row.ensures.states,
    )
