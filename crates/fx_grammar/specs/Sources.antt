-- Sources: what a text means.
use Rattle.std.specs.Prelude.{ℕ, List, [], ◌∷◌, ◌++◌, length, drop, map, Option, Some, None, Result, Ok, Err, bytes_eq, if◌then◌else◌}
use Rattle.std.specs.List.{find}
use Rattle.std.specs.Str.{is_utf8}
use Rattle.std.specs.Str.Lossy.{utf8_valid_len}
use Rattle.fx_lexer.specs.declared.fault.SourceFault.{SourceFault}
use Rattle.fx_lexer.specs.declared.fault.SourceKind.TheVariants as kinds
use Rattle.fx_grammar.specs.declared.head.Head.TheVariants as heads
use Rattle.fx_grammar.specs.Heads.{◌==ₕ◌}
use Rattle.fx_lexer.specs.Tokens.{tokens_of}
use Rattle.fx_model.specs.Function.{Function}
use Rattle.fx_model.specs.Steps.{◌>>=◌}
use Rattle.fx_grammar.specs.Steps.{Text, Tokens, Parsed, fault, next_head, next_place, wrong, want, repeated, stands_next, behind, separated}
use Rattle.fx_grammar.specs.Functions.{def_at}

-- "." name
unfoldable pub dot_at : ℕ → Unit {0} → Tokens → Parsed (Unit {0})
dot_at end u ts = want end heads.Name ts >>= λ n. Ok (tt, n.1)

-- import = "import" name { "." name }, behind the word
unfoldable pub import_at : ℕ → Unit {0} → Tokens → Parsed (Unit {0})
import_at end u ts = separated heads.Dot (dot_at end) tt ts

-- { import }
unfoldable pub imports_at : ℕ → Tokens → Parsed (Unit {0})
imports_at end ts = repeated (stands_next heads.Import) (behind (import_at end)) tt ts

-- ---- functions

-- the names of functions
abbrev pub function_names : List Function → List Text
function_names fs = map (λ f. f.name) fs

-- one more function, from its word on
unfoldable pub one_def : ℕ → List Function → Tokens → Parsed (List Function)
one_def end fs ts = def_at end (next_place end ts) (function_names fs) (drop 1 ts) >>= λ f. Ok (fs ++ f.0 ∷ [], f.1)

-- { def }
unfoldable pub defs_at : ℕ → Tokens → Parsed (List Function)
defs_at end ts = repeated (stands_next heads.Def) (one_def end) [] ts

-- nothing stands behind the source
abbrev pub ended : ℕ → List Function → Tokens → Result (List Function) SourceFault
ended end fs [] = Ok fs
ended end fs (t ∷ ts) = Err (wrong end (t ∷ ts))

-- "object" name "{" { import } { def } "}", behind the word
unfoldable pub object_at : ℕ → Tokens → Parsed (List Function)
object_at end ts = do
  t ← want end heads.Name ts
  o ← want end heads.OpenBrace t.1
  i ← imports_at end o.1
  fs ← defs_at end i.1
  c ← want end heads.CloseBrace fs.1
  Ok (fs.0, c.1)

-- source = { import } ( object | { def } )
unfoldable pub source_of : ℕ → Tokens → Result (List Function) SourceFault
source_of end ts = do
  i ← imports_at end ts
  fs ← (if next_head i.1 ==ₕ heads.Object then object_at end (drop 1 i.1) else defs_at end i.1)
  ended end fs.0 fs.1

-- the function that is wanted
abbrev pub called : Option Function → Result Function SourceFault
called None = Err (fault 0 kinds.NoSuchFunction)
called (Some f) = Ok f

-- the function of the wanted name; with no name the only one
unfoldable pub chosen : Option Text → List Function → Result Function SourceFault
chosen None [] = Err (fault 0 kinds.NoSuchFunction)
chosen None (f ∷ []) = Ok f
chosen None (f ∷ g ∷ fs) = Err (fault 0 kinds.WhichFunction)
chosen (Some name) fs = called (find (λ f. bytes_eq f.name name) fs)

-- what the tokens of a text of so many bytes give
abbrev pub functions_of : List ℕ → Result (List Function) SourceFault
functions_of text = do
  ts ← tokens_of text
  source_of (length text) ts

-- the wanted function of these bytes, or the first fault
unfoldable pub parsed : List ℕ → Option Text → Result Function SourceFault
parsed bytes name = if is_utf8 bytes
    then (functions_of bytes >>= λ fs. chosen name fs)
    else Err (fault (utf8_valid_len bytes) kinds.BadUtf8)
