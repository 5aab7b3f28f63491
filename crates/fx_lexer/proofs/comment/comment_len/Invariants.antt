use Rattle.std.proofs.Common.{◌≡◌, ◌≤◌, drop}
use Rattle.fx_lexer.specs.Comments.{comment_end}
use Rattle.fx_lexer.proofs.comment.comment_len.Given as goal

abbrev pub invariant-loop-i : goal.invariant-loop-i
invariant-loop-i l = record {
  few : l.depth ≤ l.i;
  same : comment_end l.i l.depth l.last (drop l.i l.bytes) ≡ comment_end 0 0 0 l.bytes;
}
