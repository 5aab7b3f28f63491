use Rattle.std.proofs.Common.{◌≡◌, ◌++◌, take}
use Rattle.std.specs.List.{flat_map}
use Rattle.fx_model.specs.LineText.{line_text}
use Rattle.fx_inequalities.specs.CertificateText.{step_fields}
use Rattle.fx_step.specs.StepView.{step_view}
use Rattle.fx_cert_text.specs.Printing.{printed_step}
use Rattle.fx_cert_text.proofs.print.put_steps.Given as goal

abbrev pub invariant-loop-step : goal.invariant-loop-step
invariant-loop-step l =
    l.out.items ≡ l.fn.out.items ++ flat_map (λ x. line_text (step_fields (printed_step (step_view x))))
    (take l.step-index l.steps)
