-- How a text is laid out: blanks and comments may stand anywhere between tokens.
use Rattle.std.specs.Prelude.{◌≡◌, ◌==◌, ℕ, ◌+◌, ◌<◌, Bool, true, false, ◌||◌, ◌&&◌, List, [], ◌∷◌, ◌++◌, length, slice_index, codes, Ok, ◌↔◌}
use Rattle.fx_lexer.specs.Characters.{is_blank, is_line_feed, has_line_feed}
use Rattle.fx_lexer.specs.Tokens.{Lexeme, token_item, first_item, tokens_of}
use Rattle.fx_lexer.specs.declared.token.TokenKind.{TokenKind}

-- whether two bytes are /* or */
abbrev pub is_mark : ℕ → ℕ → Bool
is_mark a b = ((a == 47) && (b == 42)) || ((a == 42) && (b == 47))

-- what may stand in a comment that nests: bytes with which no mark begins, and whole comments
pub data IsInside : List ℕ → Type 0 where
  nothing : IsInside []
  byte : (c : ℕ) (rest : List ℕ) → is_mark c (slice_index (rest ++ codes "*/") 0) ≡ false → IsInside rest →
      IsInside (c ∷ rest)
  inner : (inside rest : List ℕ) → IsInside inside → IsInside rest →
      IsInside (codes "/*" ++ (inside ++ (codes "*/" ++ rest)))

-- where a comment to the end of the line ends: before a line feed, or at the end of the text
abbrev pub ends_line : List ℕ → Bool
ends_line [] = true
ends_line (c ∷ cs) = is_line_feed c

-- what may stand between tokens, and the text behind it
pub data IsGap : List ℕ → List ℕ → Type 0 where
  blank : (c : ℕ) (rest : List ℕ) → is_blank c ≡ true → IsGap (c ∷ []) rest
  line : (inside rest : List ℕ) → has_line_feed inside ≡ false → ends_line rest ≡ true →
      IsGap (codes "//" ++ inside) rest
  nested : (inside rest : List ℕ) → IsInside inside → IsGap (codes "/*" ++ (inside ++ codes "*/")) rest

-- A text from a place on, and its tokens: gaps and tokens in any order. A token is fresh where a line feed stands in a
-- gap before it and behind the token before, or at the front.
pub data IsLaidOut : ℕ → Bool → List ℕ → List Lexeme → Type 0 where
  over : (at : ℕ) (fresh : Bool) → IsLaidOut at fresh [] []
  gap : (at : ℕ) (fresh : Bool) (front rest : List ℕ) (ts : List Lexeme) → IsGap front rest
      → IsLaidOut (at + length front) (fresh || has_line_feed front) rest ts → IsLaidOut at fresh (front ++ rest) ts
  token : (at : ℕ) (fresh : Bool) (kind : TokenKind) (front rest : List ℕ) (ts : List Lexeme)
      → 0 < length front → first_item (front ++ rest) ≡ Ok (token_item kind (length front))
      → IsLaidOut (at + length front) false rest ts
      → IsLaidOut at fresh (front ++ rest) (record { kind = kind; text = front; at = at; fresh = fresh } ∷ ts)

-- the tokens of a text are those by which it is laid out
abbrev pub LayoutLaw : Type 0
LayoutLaw = (text : List ℕ) (ts : List Lexeme) → (tokens_of text ≡ Ok ts) ↔ IsLaidOut 0 true text ts
