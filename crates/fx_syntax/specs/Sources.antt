-- Whole sources.
use Rattle.std.specs.Prelude.{◌≡◌, List, [], ◌∷◌, ◌++◌, map}
use Rattle.fx_model.specs.Function.{Function}
use Rattle.fx_lexer.specs.Tokens.{Lexeme}
use Rattle.fx_grammar.specs.declared.head.Head.TheVariants as heads
use Rattle.fx_grammar.specs.Steps.{Tokens}
use Rattle.fx_syntax.specs.Leaves.{IsNext, IsMark}
use Rattle.fx_syntax.specs.Runs.{IsRun, IsBehind, IsSeparated}
use Rattle.fx_syntax.specs.Functions.{IsDef}

-- a name of an import, which means nothing
pub record IsPart (before : Unit {0}) (ts : Tokens) (after : Unit {0}) (rest : Tokens) : Type 0 where
  pub name : Lexeme
  pub next : IsNext heads.Name ts name rest

-- { import }, and import = "import" name { "." name }
abbrev pub AreImports : Tokens → Tokens → Type 0
AreImports ts rest = IsRun (IsBehind heads.Import (IsSeparated heads.Dot IsPart)) (tt {0}) ts (tt {0}) rest

-- "def" and one more function
pub record IsNewDef (before : List Function) (ts : Tokens) (after : List Function) (rest : Tokens) : Type 0 where
  pub function : Function
  pub behind : Tokens
  pub word : IsMark heads.Def ts behind
  pub def_is : IsDef (map (λ f. f.name) before) behind function rest
  pub value : after ≡ before ++ function ∷ []

-- { def }
abbrev pub AreDefs : Tokens → List Function → Tokens → Type 0
AreDefs ts fs rest = IsRun IsNewDef [] ts fs rest

-- object = "object" name "{" { import } { def } "}"
pub record IsObject (ts : Tokens) (fs : List Function) (rest : Tokens) : Type 0 where
  pub name : Lexeme
  pub names : Tokens
  pub opens : Tokens
  pub imports : Tokens
  pub defs : Tokens
  pub closes : Tokens
  pub word : IsMark heads.Object ts names
  pub name_next : IsNext heads.Name names name opens
  pub opening : IsMark heads.OpenBrace opens imports
  pub imports_are : AreImports imports defs
  pub defs_are : AreDefs defs fs closes
  pub close : IsMark heads.CloseBrace closes rest

-- source = { import } ( object | { def } )
pub data IsSource : Tokens → List Function → Type 0 where
  object : {ts us : Tokens} {fs : List Function} → AreImports ts us → IsObject us fs [] → IsSource ts fs
  functions : {ts us : Tokens} {fs : List Function} → AreImports ts us → AreDefs us fs [] → IsSource ts fs
