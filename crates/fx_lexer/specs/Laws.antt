-- What may be believed of tokens and of lexical faults.
use Rattle.std.specs.Prelude.{◌≡◌, ℕ, ◌+◌, ◌<◌, ◌≤◌, Bool, true, false, IsTrue, List, [], ◌∷◌, length, take, drop, bytes_eq, Ok, Err, IsOk, ⊤}
use Rattle.std.specs.List.{list_any}
use Rattle.fx_model.specs.Names.{IsName, is_reserved}
use Rattle.fx_fraction.specs.DecimalOf.{decimal_of}
use Rattle.fx_lexer.specs.declared.fault.SourceFault.{SourceFault}
use Rattle.fx_lexer.specs.declared.fault.SourceKind.{SourceKind}
use Rattle.fx_lexer.specs.declared.fault.SourceKind.TheVariants.{BadCharacter, BadNumber, NumberTooLong, EndOfText}
use Rattle.fx_lexer.specs.declared.token.TokenKind.{TokenKind}
use Rattle.fx_lexer.specs.declared.token.TokenKind.TheVariants.{Name, Number, Word, Sign}
use Rattle.fx_lexer.specs.Tokens.{Lexeme, signs, tokens_of}

-- what a token of a kind may say
abbrev pub IsOfKind : TokenKind → List ℕ → Type 0
IsOfKind Name text = IsName text
IsOfKind Number text = IsOk (decimal_of text)
IsOfKind Word text = IsTrue (is_reserved text)
IsOfKind Sign text = IsTrue (list_any (λ sign. bytes_eq sign text) signs)

-- a token stands in the text, at a place or behind it, with the text's own bytes
pub record Stands (text : List ℕ) (from : ℕ) (t : Lexeme) : Type 0 where
  pub behind : from ≤ t.at
  pub some : 0 < length t.text
  pub within : t.at + length t.text ≤ length text
  pub slice : t.text ≡ take (length t.text) (drop t.at text)
  pub kind : IsOfKind t.kind t.text

-- one stands behind the other
abbrev pub StandFrom : List ℕ → ℕ → List Lexeme → Type 0
StandFrom text from [] = ⊤
StandFrom text from (t ∷ ts) = Stands text from t × StandFrom text (t.at + length t.text) ts

-- the tokens of a text stand in it, one behind the other
abbrev pub PlacesLaw : Type 0
PlacesLaw = (text : List ℕ) (ts : List Lexeme) → tokens_of text ≡ Ok ts → StandFrom text 0 ts

-- a kind of fault that cutting a text finds
abbrev pub is_lexical : SourceKind → Bool
is_lexical BadCharacter = true
is_lexical BadNumber = true
is_lexical NumberTooLong = true
is_lexical EndOfText = true
is_lexical _ = false

-- a fault is lexical, and its place is in the text or at its end
abbrev pub FaultLaw : Type 0
FaultLaw = (text : List ℕ) (fault : SourceFault) → tokens_of text ≡ Err fault →
    IsTrue (is_lexical fault.kind) × (fault.at ≤ length text)
