use Rattle.std.proofs.Common.{All, take}
use Rattle.fx_inequalities.specs.LawfulCertificate.{IsWrittenStep}
use Rattle.fx_step.specs.StepView.{step_view}
use Rattle.fx_cert.proofs.lawful.are_steps.Given as goal

abbrev pub invariant-loop-step : goal.invariant-loop-step
invariant-loop-step l = All (λ s. IsWrittenStep (step_view s)) (take l.step-index l.steps)
