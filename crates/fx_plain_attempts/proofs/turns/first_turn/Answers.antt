use Rattle.fx_plain_attempts.proofs.Better.{stands_first}
use Rattle.fx_plain_attempts.proofs.turns.first_turn.Goals as goal

pub returns : goal.returns
returns c =
    stands_first c.args.wanted c.args.function.now c.args.first c.in_ok-plain.plain c.take_better.result
    c.keeps.ensures.sizes.some_output c.requires.suits c.in_ok-plain.ensures c.take_better.ensures
