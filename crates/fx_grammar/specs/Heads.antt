-- What the grammar asks of a token.
use Rattle.std.specs.Prelude.{ℕ, ◌==◌, Bool, List, codes, if◌then◌else◌}
use Rattle.std.specs.Prelude.{bytes_eq}
use Rattle.fx_lexer.specs.Tokens.{Lexeme}
use Rattle.fx_lexer.specs.declared.token.TokenKind.{TokenKind}
use Rattle.fx_lexer.specs.declared.token.TokenKind.TheVariants as kinds
use Rattle.fx_grammar.specs.declared.head.Head.{Head}
use Rattle.fx_grammar.specs.declared.head.Head.TheVariants.{End, Name, Number, Plus, Minus, Star, Slash, Open, Close, OpenBrace, CloseBrace, Colon, Comma, Dot, Semicolon, Equals, Arrow, PlusMinus, And, Below, AtMost, Above, AtLeast, Import, Object, Def, Val, Require, Ensuring, Unsupported}

-- a sign of relations and of definitions
abbrev pub relation_of : List ℕ → Head
relation_of text =
    if bytes_eq text (codes "<") then Below else (
    if bytes_eq text (codes "<=") then AtMost else (
    if bytes_eq text (codes ">") then Above else (
    if bytes_eq text (codes ">=") then AtLeast else (
    if bytes_eq text (codes "+/-") then PlusMinus else (
    if bytes_eq text (codes "&&") then And else (
    if bytes_eq text (codes "=>") then Arrow else (
    if bytes_eq text (codes "=") then Equals else End)))))))

-- a sign of operations, or a mark
abbrev pub sign_head : List ℕ → Head
sign_head text =
    if bytes_eq text (codes "+") then Plus else (
    if bytes_eq text (codes "-") then Minus else (
    if bytes_eq text (codes "*") then Star else (
    if bytes_eq text (codes "/") then Slash else (
    if bytes_eq text (codes "(") then Open else (
    if bytes_eq text (codes ")") then Close else (
    if bytes_eq text (codes "{") then OpenBrace else (
    if bytes_eq text (codes "}") then CloseBrace else (
    if bytes_eq text (codes ":") then Colon else (
    if bytes_eq text (codes ",") then Comma else (
    if bytes_eq text (codes ".") then Dot else (
    if bytes_eq text (codes ";") then Semicolon else relation_of text)))))))))))

-- a reserved word: those of other languages are alike
abbrev pub word_head : List ℕ → Head
word_head text =
    if bytes_eq text (codes "import") then Import else (
    if bytes_eq text (codes "object") then Object else (
    if bytes_eq text (codes "def") then Def else (
    if bytes_eq text (codes "val") then Val else (
    if bytes_eq text (codes "require") then Require else (
    if bytes_eq text (codes "ensuring") then Ensuring else Unsupported)))))

-- what the grammar sees of a text of this kind
abbrev pub by_kind : TokenKind → List ℕ → Head
by_kind kinds.Name text = Name
by_kind kinds.Number text = Number
by_kind kinds.Word text = word_head text
by_kind kinds.Sign text = sign_head text

-- what the grammar sees of a token
unfoldable pub head_of : Lexeme → Head
head_of t = by_kind t.kind t.text

-- a number for each, to compare them
abbrev pub head_number : Head → ℕ
head_number End = 0
head_number Name = 1
head_number Number = 2
head_number Plus = 3
head_number Minus = 4
head_number Star = 5
head_number Slash = 6
head_number Open = 7
head_number Close = 8
head_number OpenBrace = 9
head_number CloseBrace = 10
head_number Colon = 11
head_number Comma = 12
head_number Dot = 13
head_number Semicolon = 14
head_number Equals = 15
head_number Arrow = 16
head_number PlusMinus = 17
head_number And = 18
head_number Below = 19
head_number AtMost = 20
head_number Above = 21
head_number AtLeast = 22
head_number Import = 23
head_number Object = 24
head_number Def = 25
head_number Val = 26
head_number Require = 27
head_number Ensuring = 28
head_number Unsupported = 29

infix 40 ◌==ₕ◌
abbrev pub ◌==ₕ◌ : Head → Head → Bool
a ==ₕ b = head_number a == head_number b
