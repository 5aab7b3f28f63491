use Rattle.std.proofs.Common.{◌≡◌, take, false}
use Rattle.fx_lexer.specs.Characters.{has_line_feed}
use Rattle.fx_lexer.proofs.token.has_line_feed.Given as goal

abbrev pub invariant-loop-byte : goal.invariant-loop-byte
invariant-loop-byte l = has_line_feed (take l.byte-index l.bytes) ≡ false
