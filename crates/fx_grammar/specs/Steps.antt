-- Reading tokens from left to right: the first fault decides.
use Rattle.std.specs.Prelude.{◌==◌, ℕ, zero, suc, Bool, true, false, List, [], ◌∷◌, length, drop, Option, Some, None, Result, Ok, Err, codes, if◌then◌else◌}
use Rattle.std.specs.List.{position}
use Rattle.std.specs.Prelude.{bytes_eq}
use Rattle.std.specs.Prelude.{pos, neg_ℤ}
use Rattle.fx_model.specs.Steps.{◌>>=◌}
use Rattle.fx_rational.specs.Decimal.{Decimal}
use Rattle.fx_fraction.specs.declared.fault.NumberFault.{NumberFault}
use Rattle.fx_fraction.specs.DecimalOf.{decimal_of}
use Rattle.fx_lexer.specs.declared.fault.SourceFault.{SourceFault}
use Rattle.fx_lexer.specs.declared.fault.SourceKind.{SourceKind}
use Rattle.fx_lexer.specs.declared.fault.SourceKind.TheVariants as kinds
use Rattle.fx_lexer.specs.Tokens.{Lexeme}
use Rattle.fx_grammar.specs.declared.head.Head.{Head}
use Rattle.fx_grammar.specs.declared.head.Head.TheVariants as heads
use Rattle.fx_grammar.specs.Heads.{head_of, ◌==ₕ◌}

-- a choice whose ways are not looked at before it is made
abbrev pub when : {A : Type 0} → Bool → (Unit {0} → A) → (Unit {0} → A) → A
when b f g = (if b then f else g) tt

-- a text is its bytes
abbrev pub Text : Type 0
Text = List ℕ

-- the tokens that are left
abbrev pub Tokens : Type 0
Tokens = List Lexeme

-- a value and the tokens behind it, or the first fault
abbrev pub Parsed : Type 0 → Type 0
Parsed A = Result (A × Tokens) SourceFault

-- the fault of this kind at this place
abbrev pub fault : ℕ → SourceKind → SourceFault
fault at kind = record { at = at; kind = kind }

-- what stands next
abbrev pub next_head : Tokens → Head
next_head [] = heads.End
next_head (t ∷ ts) = head_of t

-- the next token is the first one on its line
abbrev pub is_fresh : Tokens → Bool
is_fresh [] = false
is_fresh (t ∷ ts) = t.fresh

-- where the next token begins, or where the text ends
abbrev pub next_place : ℕ → Tokens → ℕ
next_place end [] = end
next_place end (t ∷ ts) = t.at

-- the fault of a token that can't come next, or of the end
abbrev pub wrong : ℕ → Tokens → SourceFault
wrong end [] = fault end kinds.EndOfText
wrong end (t ∷ ts) = fault t.at (if head_of t ==ₕ heads.Unsupported then kinds.Unsupported else kinds.Unexpected)

-- the next token, which has to be of this sort
unfoldable pub want : ℕ → Head → Tokens → Parsed Lexeme
want end head [] = Err (fault end kinds.EndOfText)
want end head (t ∷ ts) = if head_of t ==ₕ head then Ok (t, ts) else Err (wrong end (t ∷ ts))

-- the name Real
unfoldable pub real_at : ℕ → Tokens → Parsed Lexeme
real_at end ts = do
  t ← want end heads.Name ts
  if bytes_eq t.0.text (codes "Real") then Ok t else Err (fault t.0.at kinds.Unexpected)

-- the number that a token of the lexer spells
abbrev pub value_or : Result Decimal NumberFault → Decimal
value_or (Ok d) = d
value_or (Err e) = record { a = pos 0; b = 0 }

-- the value of a number
unfoldable pub decimal : Text → Decimal
decimal text = value_or (decimal_of text)

-- the negative value
abbrev pub negative_decimal : Decimal → Decimal
negative_decimal d = record { a = neg_ℤ d.a; b = d.b }

-- a number and its value
unfoldable pub numeral_at : ℕ → Tokens → Parsed Decimal
numeral_at end ts = do
  t ← want end heads.Number ts
  Ok (decimal t.0.text, t.1)

-- signed = [ "-" ] number
unfoldable pub signed_at : ℕ → Tokens → Parsed Decimal
signed_at end ts = if next_head ts ==ₕ heads.Minus
    then (numeral_at end (drop 1 ts) >>= λ d. Ok (negative_decimal d.0, d.1))
    else numeral_at end ts

-- [ ";" ]
abbrev pub past_semicolon : Tokens → Tokens
past_semicolon ts = if next_head ts ==ₕ heads.Semicolon then drop 1 ts else ts

-- so many steps, as long as they go on
unfoldable pub repeat : {S : Type 0} → (S → Tokens → Bool) → (S → Tokens → Parsed S) → ℕ → S → Tokens → Parsed S
repeat goes_on step zero s ts = Ok (s, ts)
repeat goes_on step (suc turns) s ts = when (goes_on s ts)
    (λ _. step s ts >>= λ x. repeat goes_on step turns x.0 x.1)
    (λ _. Ok (s, ts))

-- steps as long as they go on; each takes a token, so that these turns are enough
abbrev pub repeated : {S : Type 0} → (S → Tokens → Bool) → (S → Tokens → Parsed S) → S → Tokens → Parsed S
repeated goes_on step s ts = repeat goes_on step (suc (length ts)) s ts

-- a sign stands next
abbrev pub stands_next : {S : Type 0} → Head → S → Tokens → Bool
stands_next head s ts = next_head ts ==ₕ head

-- an item behind a sign
abbrev pub behind : {S : Type 0} → (S → Tokens → Parsed S) → S → Tokens → Parsed S
behind item s ts = item s (drop 1 ts)

-- items with a sign between each two
unfoldable pub separated : {S : Type 0} → Head → (S → Tokens → Parsed S) → S → Tokens → Parsed S
separated sign item s ts = do
  x ← item s ts
  repeated (stands_next sign) (behind item) x.0 x.1

-- items with a comma between each two, and the parenthesis that closes
unfoldable pub listed : {S : Type 0} → (S → Tokens → Parsed S) → ℕ → S → Tokens → Parsed S
listed item end s ts = do
  x ← separated heads.Comma item s ts
  c ← want end heads.Close x.1
  Ok (x.0, c.1)

-- the place of a name among names
abbrev pub name_place : List Text → Text → Option ℕ
name_place names text = position (λ name. bytes_eq name text) names

-- a place was found
abbrev pub is_found : Option ℕ → Bool
is_found None = false
is_found (Some k) = true

-- one of the names is this
abbrev pub has_name : List Text → Text → Bool
has_name names name = is_found (name_place names name)

-- a new name where so many of its sort are read, of at most limit
unfoldable pub free_at : ℕ → ℕ → List Text → Lexeme → Result (Unit {0}) SourceFault
free_at limit count names t =
    if count == limit then Err (fault t.at kinds.TooMany) else (
    if has_name names t.text then Err (fault t.at kinds.NamedTwice) else Ok tt)
