use Rattle.fx_plain_attempts.proofs.Better.{stands_still}
use Rattle.fx_synth.proofs.synthesis.searched.Goals as goal

pub returns : goal.returns
returns c = λ steps stands.
    stands_still c.args.wanted c.args.function.now steps c.args.answer c.in_ok-candidate.candidate c.take_better.result stands
    c.in_ok-candidate.ensures c.take_better.ensures
