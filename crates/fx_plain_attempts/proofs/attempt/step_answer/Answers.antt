use Rattle.std.proofs.Common.{[], ◌∷◌, sym}
use Rattle.std.specs.Option.{option_map}
use Rattle.fx_step.specs.StepView.{step_view}
use Rattle.fx_analysis.specs.AttemptView.{attempt_in}
use Rattle.fx_plain_attempts.proofs.Outcomes.{judged_outcome, after_own, step_named}
use Rattle.fx_plain_attempts.proofs.attempt.step_answer.Goals as goal

pub returns : goal.returns
returns c =
    let w = c.args.wanted in let fn = c.args.function.now in let s = step_view c.args.step in
    let a = option_map attempt_in c.in_ok-attempt.attempt in let is = sym c.in_ok-attempt.ensures.attempt in
    judged_outcome w fn (s ∷ []) a c.in_ok-answer.answer c.rounded_law.ensures c.requires.stateless is
    (after_own w fn (s ∷ []) a (step_named c.rewrite_law.ensures fn s c.requires.there) is) c.in_ok-answer.ensures
