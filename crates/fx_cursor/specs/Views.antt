-- What tokens of the code stand for.
use Rattle.std.specs.Prelude.{List, map}
use Rattle.fx_lexer.specs.declared.token.Token.{Token}
use Rattle.fx_lexer.specs.Tokens.{lexeme_of}
use Rattle.fx_grammar.specs.Steps.{Tokens}

abbrev pub lexemes : List Token → Tokens
lexemes ts = map lexeme_of ts
