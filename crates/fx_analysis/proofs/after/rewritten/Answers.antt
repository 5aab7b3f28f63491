use Rattle.std.proofs.Common.{subst}
use Rattle.fx_model.specs.Function.{Function}
use Rattle.fx_step.specs.StepView.{step_view}
use Rattle.fx_rewrite.specs.Refusals.{IsRefused}
use Rattle.fx_rewrite.specs.declared.fault.StepFault.{StepFault}
use Rattle.fx_analysis.proofs.Refused.{rule_matches}
use Rattle.fx_analysis.proofs.after.rewritten.Goals as goal

pub unreachable-requires-in-Err-NoMatch : goal.unreachable-requires-in-Err-NoMatch
unreachable-requires-in-Err-NoMatch c =
    rule_matches c.rewrite_law.ensures c.args.function.now (step_view c.args.step.now) c.requires
    (subst (λ (k : StepFault). IsRefused k c.args.function.now (step_view c.args.step.now))
    c.in-Err-NoMatch.field-0-is
    (subst (λ (f : Function). IsRefused c.in-Err-NoMatch.field-0 f (step_view c.args.step.now)) c.in_ok-left.ensures
    c.in-Err-NoMatch.ensures.refused))
