-- What each token of the lexer meets.
use Rattle.std.specs.Prelude.{ℕ, pos, List}
use Rattle.std.specs.List.{All}
use Rattle.fx_rational.specs.Rational.{whole, AtMost}
use Rattle.fx_rational.specs.Decimal.{Decimal, decimal_value}
use Rattle.fx_model.specs.Names.{IsName}
use Rattle.fx_lexer.specs.declared.token.TokenKind.{TokenKind}
use Rattle.fx_lexer.specs.declared.token.TokenKind.TheVariants.{Name, Number}
use Rattle.fx_lexer.specs.Tokens.{Lexeme}
use Rattle.fx_grammar.specs.Steps.{Tokens, decimal}

-- zero or above
abbrev pub IsSize : Decimal → Type 0
IsSize d = AtMost (whole (pos 0)) (decimal_value d)

-- names are names, and a number has no sign
abbrev pub IsSoundText : TokenKind → List ℕ → Type 0
IsSoundText Name text = IsName text
IsSoundText Number text = IsSize (decimal text)
IsSoundText _ text = Unit {0}

-- a token's text is what its kind says
abbrev pub IsSound : Lexeme → Type 0
IsSound t = IsSoundText t.kind t.text

-- each token's is
abbrev pub AreSound : Tokens → Type 0
AreSound ts = All IsSound ts
