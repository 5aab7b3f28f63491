use Rattle.std.proofs.Common.{sym, arith}
use Rattle.fx_lexer.proofs.Inside.{ends, goes_on, runs_out}
use Rattle.fx_lexer.proofs.comment.comment_len.Goals as goal

pub returns-then-is_outermost_end : goal.returns-then-is_outermost_end
returns-then-is_outermost_end c =
    sym (ends c.args.bytes.now c.loop-i.i c.loop-i.depth c.loop-i.last _ c.loop-i-test.true c.loop-i.invariant.same
    (sym c.if-is_outermost_end.ensures))

pub loop-i-preserved : goal.loop-i-preserved
loop-i-preserved c = record {
  few = omega arith;
  same =
      rw c.open_behind.ensures.value
      (goes_on c.args.bytes.now c.loop-i.i c.loop-i.depth c.loop-i.last _ c.loop-i-test.true c.loop-i.invariant.same
      (sym c.if-is_outermost_end.ensures));
}

pub returns : goal.returns
returns c = runs_out c.args.bytes.now c.loop-i.i c.loop-i.depth c.loop-i.last _ (omega arith) c.loop-i.invariant.same
