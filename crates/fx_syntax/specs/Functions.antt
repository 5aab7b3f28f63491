-- Whole functions.
use Rattle.std.specs.Prelude.{◌≡◌, ◌-◌, ◌≤◌, false, List, [], length, map}
use Rattle.fx_model.specs.Limits.{node_limit}
use Rattle.fx_model.specs.Function.{Function}
use Rattle.fx_model.specs.Nodes.{nodes_of}
use Rattle.fx_lexer.specs.Tokens.{Lexeme}
use Rattle.fx_grammar.specs.declared.head.Head.TheVariants as heads
use Rattle.fx_grammar.specs.Steps.{Text, Tokens, has_name}
use Rattle.fx_grammar.specs.Ranges.{names_of}
use Rattle.fx_grammar.specs.Functions.{Front}
use Rattle.fx_syntax.specs.Leaves.{IsNext, IsMark, IsMaybeSemicolon}
use Rattle.fx_syntax.specs.Runs.{IsRun, IsBehind, IsListed}
use Rattle.fx_syntax.specs.Fronts.{IsParam, IsStates, IsType}
use Rattle.fx_syntax.specs.Conditions.{IsRequire}
use Rattle.fx_syntax.specs.Expressions.{Scope}
use Rattle.fx_syntax.specs.Bodies.{with_temps, IsVal, IsResult}
use Rattle.fx_syntax.specs.Ensuring.{IsMaybeEnsuring}

-- "def" name "(" params ")" [ states ] ":" type "=" "{", behind the word; no function before has the name
pub record IsFront (functions : List Text) (ts : Tokens) (f : Front) (rest : Tokens) : Type 0 where
  pub name : Lexeme
  pub opens : Tokens
  pub params : Tokens
  pub states : Tokens
  pub colons : Tokens
  pub types : Tokens
  pub signs : Tokens
  pub braces : Tokens
  pub name_next : IsNext heads.Name ts name opens
  pub opening : IsMark heads.Open opens params
  pub params_are : IsListed IsParam [] params f.subjects states
  pub states_are : IsStates (names_of f.subjects) states f.declared colons
  pub colon : IsMark heads.Colon colons types
  pub type_is : IsType (length f.declared.states) types f.reals signs
  pub equals : IsMark heads.Equals signs braces
  pub brace : IsMark heads.OpenBrace braces rest
  pub fresh : has_name functions name.text ≡ false
  pub named : f.name ≡ name.text

-- the inputs and the states are seen in all of the body
abbrev pub scope_of : Front → Scope
scope_of f = record { inputs = names_of f.subjects; states = map (λ s. s.name) f.declared.states; temps = [] }

-- require [ ";" ] { val } result [ ";" ] "}" [ ensuring ]; a function has at most 4,000 nodes
pub record IsBody (front : Front) (ts : Tokens) (f : Function) (rest : Tokens) : Type 0 where
  pub conditions : Tokens
  pub ends : Tokens
  pub vals : Tokens
  pub results : Tokens
  pub behind : Tokens
  pub braces : Tokens
  pub bounds : Tokens
  pub word : IsMark heads.Require ts conditions
  pub require_is : IsRequire front.subjects conditions f.inputs ends
  pub require_semicolon : IsMaybeSemicolon ends vals
  pub vals_are : IsRun (IsBehind heads.Val (IsVal (scope_of front))) [] vals f.temps results
  pub result_is : IsResult (with_temps (scope_of front) f.temps) front.reals results f.results behind
  pub result_semicolon : IsMaybeSemicolon behind braces
  pub brace : IsMark heads.CloseBrace braces bounds
  pub ensuring_is : IsMaybeEnsuring (front.reals - length front.declared.states) bounds f.demands rest
  pub name : f.name ≡ front.name
  pub states : f.states ≡ front.declared.states
  pub nodes : length (nodes_of f) ≤ node_limit

-- def, behind the word
pub record IsDef (functions : List Text) (ts : Tokens) (f : Function) (rest : Tokens) : Type 0 where
  pub front : Front
  pub bodies : Tokens
  pub front_is : IsFront functions ts front bodies
  pub body_is : IsBody front bodies f rest
