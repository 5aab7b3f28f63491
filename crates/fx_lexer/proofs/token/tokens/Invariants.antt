use Rattle.std.proofs.Common.{length}
use denote.Shadow.{shadow}
use denote.Text.{Utf8}
use Rattle.fx_lexer.specs.Tokens.{tokens_of}
use Rattle.fx_lexer.proofs.Lexemes.{HasRead}
use Rattle.fx_lexer.proofs.token.tokens.Given as goal

abbrev pub invariant-loop-rest : goal.invariant-loop-rest
invariant-loop-rest l = record {
  is_text : shadow (Utf8 l.rest);
  read : HasRead l.found.items l.at l.fresh l.rest (length l.text) (tokens_of l.text);
}

abbrev pub decreases-loop-rest : goal.decreases-loop-rest
decreases-loop-rest l = length l.rest
