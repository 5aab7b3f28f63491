use Rattle.std.proofs.Common.{◌≡◌, ℕ, ◌<◌, get_or, false}
use Rattle.fx_lexer.specs.Characters.{is_line_feed}
use Rattle.fx_lexer.proofs.comment.line_len.Given as goal

abbrev pub invariant-loop-i : goal.invariant-loop-i
invariant-loop-i l = (k : ℕ) → k < l.i → is_line_feed (get_or l.bytes k 0) ≡ false
