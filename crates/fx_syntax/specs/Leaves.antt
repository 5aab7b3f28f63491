-- The rules of one token or two. A rule relates the tokens from a place on, what they spell, and the tokens behind
-- them; a list of tokens within a rule is named after what begins there.
use Rattle.std.specs.Prelude.{◌≡◌, ◌∷◌, codes}
use Rattle.fx_rational.specs.Decimal.{Decimal}
use Rattle.fx_lexer.specs.Tokens.{Lexeme}
use Rattle.fx_grammar.specs.declared.head.Head.{Head}
use Rattle.fx_grammar.specs.declared.head.Head.TheVariants as heads
use Rattle.fx_grammar.specs.Heads.{head_of}
use Rattle.fx_grammar.specs.Steps.{Tokens, decimal, negative_decimal}

-- a token of this sort
pub record IsNext (head : Head) (ts : Tokens) (t : Lexeme) (rest : Tokens) : Type 0 where
  pub tokens : ts ≡ t ∷ rest
  pub is : head_of t ≡ head

-- a sign or a word
pub record IsMark (head : Head) (ts rest : Tokens) : Type 0 where
  pub token : Lexeme
  pub next : IsNext head ts token rest

-- "Real", which is a name
pub record IsReal (ts rest : Tokens) : Type 0 where
  pub token : Lexeme
  pub next : IsNext heads.Name ts token rest
  pub text : token.text ≡ codes "Real"

-- number
pub record IsNumber (ts : Tokens) (d : Decimal) (rest : Tokens) : Type 0 where
  pub number : Lexeme
  pub next : IsNext heads.Number ts number rest
  pub value : d ≡ decimal number.text

-- signed = [ "-" ] number
pub data IsSigned : Tokens → Decimal → Tokens → Type 0 where
  plain : {ts rest : Tokens} {d : Decimal} → IsNumber ts d rest → IsSigned ts d rest
  negative : {ts us rest : Tokens} {d : Decimal} → IsMark heads.Minus ts us → IsNumber us d rest →
      IsSigned ts (negative_decimal d) rest

-- [ ";" ]
pub data IsMaybeSemicolon : Tokens → Tokens → Type 0 where
  left_out : {ts : Tokens} → IsMaybeSemicolon ts ts
  written : {ts rest : Tokens} → IsMark heads.Semicolon ts rest → IsMaybeSemicolon ts rest
