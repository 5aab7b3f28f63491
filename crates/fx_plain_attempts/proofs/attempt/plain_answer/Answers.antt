use Rattle.std.proofs.Common.{◌∙◌, [], refl, sym}
use Rattle.std.specs.Option.{option_map}
use Rattle.fx_analysis.specs.AttemptView.{attempt_in}
use Rattle.fx_wanted.specs.Asked.{rounding_of}
use Rattle.fx_plain_attempts.proofs.Outcomes.{judged_outcome, after_own}
use Rattle.fx_plain_attempts.proofs.attempt.plain_answer.Goals as goal

pub returns : goal.returns
returns c =
    let w = c.args.wanted in let fn = c.args.function.now in let a = option_map attempt_in c.in_ok-attempt.attempt in
    let is = c.no_steps_law.ensures w.width (rounding_of w) fn ∙ sym c.in_ok-attempt.ensures.attempt in
    judged_outcome w fn [] a c.in_ok-answer.answer c.rounded_law.ensures c.requires.stateless is
    (after_own w fn [] a refl is) c.in_ok-answer.ensures
