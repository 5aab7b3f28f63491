use Rattle.fx_step.specs.StepView.{step_view}
use Rattle.fx_plain_attempts.proofs.Better.{stands_next}
use Rattle.fx_plain_attempts.proofs.turns.next_turn.Goals as goal

pub returns : goal.returns
returns c = λ done stands.
    stands_next c.args.wanted c.args.function.now done
    (step_view c.args.step) c.args.answer c.in_ok-candidate.candidate c.take_better.result
    c.keeps.ensures.sizes.some_output stands c.in_ok-candidate.ensures c.take_better.ensures
