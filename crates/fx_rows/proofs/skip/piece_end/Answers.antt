use Rattle.std.proofs.Common.{arith}
use Rattle.fx_rows.proofs.Passed.{piece_at}
use Rattle.fx_rows.proofs.skip.piece_end.Goals as goal

pub returns-in-44 : goal.returns-in-44
returns-in-44 c = piece_at c.args.text.now c.loop-i.i (omega arith) c.loop-i.invariant (λ lt. c.in-44.is)

pub returns : goal.returns
returns c =
    piece_at c.args.text.now _ (omega arith) (λ k lt. c.loop-i.invariant k (omega (arith, lt, c.loop-i-test.false)))
    (λ lt. absurd (omega arith))
