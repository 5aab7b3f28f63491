use Rattle.fx_model.specs.LineText.{line_text}
use Rattle.fx_inequalities.specs.CertificateText.{step_fields}
use Rattle.fx_step.specs.StepView.{step_view}
use Rattle.fx_cert_text.specs.Printing.{printed_step}
use Rattle.fx_cert_text.proofs.Written.{one_more, no_more}
use Rattle.fx_cert_text.proofs.print.put_steps.Goals as goal

pub loop-step-preserved : goal.loop-step-preserved
loop-step-preserved c =
    one_more (λ x. line_text (step_fields (printed_step (step_view x)))) c.args.steps.now c.loop-step.step-index c.step-item.result c.args.out.now.items
    c.loop-step.out.items c.put_step.new.out.items c.loop-step-test.true c.step-item.is c.loop-step.invariant
    c.in_ok-put_step.ensures

pub returns : goal.returns
returns c =
    no_more (λ x. line_text (step_fields (printed_step (step_view x)))) c.args.steps.now c.loop-step.step-index c.args.out.now.items c.loop-step.out.items
    c.loop-step-test.false c.loop-step.invariant
