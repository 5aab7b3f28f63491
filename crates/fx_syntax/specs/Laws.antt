-- What ties the reading of tokens and texts to the grammar.
use Rattle.std.specs.Prelude.{◌≡◌, ℕ, true, List, [], ◌∷◌, ◌++◌, Option, Some, None, Ok, ◌↔◌}
use Rattle.std.specs.Str.{is_utf8}
use Rattle.fx_model.specs.Function.{Function}
use Rattle.fx_lexer.specs.Layout.{IsLaidOut}
use Rattle.fx_grammar.specs.Steps.{Text, Tokens}
use Rattle.fx_grammar.specs.Sources.{source_of, functions_of, parsed}
use Rattle.fx_syntax.specs.Sources.{IsSource}

-- what is read of tokens is a source of the grammar, and these are its functions
abbrev pub ReadIsSpelled : Type 0
ReadIsSpelled = (end : ℕ) (ts : Tokens) (fs : List Function) → source_of end ts ≡ Ok fs → IsSource ts fs

-- a source of the grammar is read, and its functions are these
abbrev pub SpelledIsRead : Type 0
SpelledIsRead = (end : ℕ) (ts : Tokens) (fs : List Function) → IsSource ts fs → source_of end ts ≡ Ok fs

-- whichever way the grammar is followed, a source has the same functions
abbrev pub OneMeaning : Type 0
OneMeaning = (ts : Tokens) (fs gs : List Function) → IsSource ts fs → IsSource ts gs → fs ≡ gs

-- the tokens by which a text is laid out are a source with these functions
pub record IsSourceText (text : List ℕ) (fs : List Function) : Type 0 where
  pub tokens : Tokens
  pub layout : IsLaidOut 0 true text tokens
  pub source : IsSource tokens fs

-- a text has these functions exactly where it is laid out by the tokens of a source that has them
abbrev pub TextLaw : Type 0
TextLaw = (text : List ℕ) (fs : List Function) → (functions_of text ≡ Ok fs) ↔ IsSourceText text fs

-- the only function of a source, or that of this name
pub data IsChosen : Option Text → List Function → Function → Type 0 where
  only : {f : Function} → IsChosen None (f ∷ []) f
  named : {name : Text} {f : Function} (before after : List Function) → f.name ≡ name →
      IsChosen (Some name) (before ++ f ∷ after) f

-- the bytes are UTF-8, and a source of which this is the wanted function
pub record IsWanted (bytes : List ℕ) (name : Option Text) (f : Function) : Type 0 where
  pub functions : List Function
  pub utf8 : is_utf8 bytes ≡ true
  pub text : IsSourceText bytes functions
  pub chosen : IsChosen name functions f

-- bytes give the wanted function of their source, and no other
abbrev pub WantedLaw : Type 0
WantedLaw = (bytes : List ℕ) (name : Option Text) (f : Function) → (parsed bytes name ≡ Ok f) ↔ IsWanted bytes name f
