-- The tokens of a text, from left to right: each is the longest at its place.
use Rattle.std.specs.Prelude.{◌==◌, ℕ, zero, suc, ◌+◌, Bool, true, false, ◌||◌, ◌&&◌, List, [], ◌∷◌, length, take, drop, Option, Some, None, Result, Ok, Err, slice_index, codes, if◌then◌else◌}
use Rattle.std.specs.Char.{is_ascii_digit}
use Rattle.std.specs.List.{prefix_len, position_or_len, starts_with, find}
use Rattle.std.specs.Result.{is_err}
use Rattle.fx_model.specs.Names.{is_letter, is_word_byte, is_reserved}
use Rattle.fx_fraction.specs.DecimalOf.{decimal_of}
use Rattle.fx_lexer.specs.declared.fault.SourceFault.{SourceFault}
use Rattle.fx_lexer.specs.declared.fault.SourceKind.{SourceKind}
use Rattle.fx_lexer.specs.declared.fault.SourceKind.TheVariants.{BadCharacter, BadNumber, NumberTooLong, EndOfText}
use Rattle.fx_lexer.specs.declared.item.Item.{Item}
use Rattle.fx_lexer.specs.declared.token.Token.{Token}
use Rattle.fx_lexer.specs.declared.token.TokenKind.{TokenKind}
use Rattle.fx_lexer.specs.declared.token.TokenKind.TheVariants.{Name, Number, Word, Sign}
use Rattle.fx_lexer.specs.Characters.{is_blank, is_line_feed, has_line_feed}
use Rattle.fx_lexer.specs.Numbers.{number_len}
use Rattle.fx_lexer.specs.Comments.{comment_end}

-- a token without where its text lies in memory
pub record Lexeme : Type 0 where
  pub kind : TokenKind
  pub text : List ℕ
  pub at : ℕ
  pub fresh : Bool

-- what contracts see of a token
abbrev pub lexeme_of : Token → Lexeme
lexeme_of t = record { kind = t.kind; text = t.text.now; at = t.at; fresh = t.fresh }

-- ---- the item at the front of a text: a blank, a comment or a token

-- a blank or a comment of so many bytes
abbrev pub gap : ℕ → Item
gap n = record { len = n; kind = None }

-- a token of so many bytes
abbrev pub token_item : TokenKind → ℕ → Item
token_item kind n = record { len = n; kind = Some kind }

-- the longest run of letters and digits, taken for a name where it isn't reserved
abbrev pub word_item : List ℕ → Item
word_item text = let n = prefix_len is_word_byte text in token_item (if is_reserved (take n text) then Word else Name) n

-- of two faults of one number the lower row of the grammar's table decides
abbrev pub number_item : List ℕ → Result Item SourceKind
number_item text = let n = number_len text in
    if is_err (decimal_of (take n text)) then Err NumberTooLong else (
    if is_letter (slice_index text n) then Err BadNumber else Ok (token_item Number n))

-- a nested comment by the place behind it
abbrev pub closed_item : Option ℕ → Result Item SourceKind
closed_item (Some n) = Ok (gap n)
closed_item None = Err EndOfText

-- the nested comment at the front
abbrev pub comment_item : List ℕ → Result Item SourceKind
comment_item text = closed_item (comment_end 0 0 0 text)

-- the signs, the longest first
abbrev pub signs : List (List ℕ)
signs = codes "+/-" ∷ codes "=>" ∷ codes "<=" ∷ codes ">=" ∷ codes "&&" ∷
    codes "(" ∷ codes ")" ∷ codes "{" ∷ codes "}" ∷ codes ":" ∷ codes "," ∷ codes "." ∷ codes ";" ∷
    codes "=" ∷ codes "<" ∷ codes ">" ∷ codes "+" ∷ codes "-" ∷ codes "*" ∷ codes "/" ∷ []

-- the sign that was found
abbrev pub found_sign : Option (List ℕ) → Result Item SourceKind
found_sign (Some sign) = Ok (token_item Sign (length sign))
found_sign None = Err BadCharacter

-- the first of the signs with which the text begins
abbrev pub sign_item : List ℕ → Result Item SourceKind
sign_item text = found_sign (find (λ sign. starts_with (λ a b. a == b) text sign) signs)

-- the item at the front of a text that isn't empty
unfoldable pub first_item : List ℕ → Result Item SourceKind
first_item text = let a = slice_index text 0 in let b = slice_index text 1 in
    if is_blank a then Ok (gap 1) else (
    if is_letter a then Ok (word_item text) else (
    if is_ascii_digit a then number_item text else (
    if (a == 47) && (b == 47) then Ok (gap (position_or_len is_line_feed text)) else (
    if (a == 47) && (b == 42) then comment_item text else
    sign_item text))))

-- ---- the tokens

-- an unclosed comment is found at the end of the text, another fault at the item
abbrev pub place_of : SourceKind → ℕ → ℕ → ℕ
place_of EndOfText at end = end
place_of _ at end = at

-- the tokens, or the first lexical fault
abbrev pub Lexemes : Type 0
Lexemes = Result (List Lexeme) SourceFault

-- a token and then what the rest gives
abbrev pub before : Lexeme → Lexemes → Lexemes
before t (Ok ts) = Ok (t ∷ ts)
before t (Err e) = Err e

-- what the item at the front gives, and then the rest
abbrev pub next : ℕ → Bool → List ℕ → Result Item SourceKind → (ℕ → Bool → List ℕ → Lexemes) → Lexemes
next at fresh text (Err kind) rest = Err (record { at = place_of kind at (at + length text); kind = kind })
next at fresh text (Ok item) rest = elim item.kind [
  | None ↦ rest (at + item.len) (fresh || has_line_feed (take item.len text)) (drop item.len text)
  | Some kind ↦ before (record { kind = kind; text = take item.len text; at = at; fresh = fresh })
      (rest (at + item.len) false (drop item.len text))
]

-- the tokens from a place on, in at most so many items
unfoldable pub tokens_from : ℕ → ℕ → Bool → List ℕ → Lexemes
tokens_from zero at fresh text = Ok []
tokens_from (suc items) at fresh [] = Ok []
tokens_from (suc items) at fresh (c ∷ cs) =
    next at fresh (c ∷ cs) (first_item (c ∷ cs)) (λ at fresh rest. tokens_from items at fresh rest)

-- the tokens of a text, or its first lexical fault; an item has a byte at least
unfoldable pub tokens_of : List ℕ → Lexemes
tokens_of text = tokens_from (length text) 0 true text
