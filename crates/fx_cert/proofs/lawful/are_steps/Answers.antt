use Rattle.fx_inequalities.specs.LawfulCertificate.{IsWrittenStep}
use Rattle.fx_step.specs.declared.step.Step.{Step}
use Rattle.fx_step.specs.StepView.{step_view}
use Rattle.fx_cert.proofs.Tested.{all_so, one_more_so}
use Rattle.fx_cert.proofs.lawful.are_steps.Goals as goal

pub loop-step-preserved : goal.loop-step-preserved
loop-step-preserved c =
    one_more_so (λ (s : Step). IsWrittenStep (step_view s)) c.args.steps.now c.loop-step.step-index
    c.step-item.result c.loop-step-test.true c.step-item.is (c.is_step.ensures c.if-not-is_step.false)
    c.loop-step.invariant

pub returns : goal.returns
returns c = λ _.
    all_so (λ (s : Step). IsWrittenStep (step_view s)) c.args.steps.now c.loop-step.step-index
    c.loop-step-test.false c.loop-step.invariant
