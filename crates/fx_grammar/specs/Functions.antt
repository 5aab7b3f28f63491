-- Whole functions.
use Rattle.std.specs.Prelude.{◌-◌, ℕ, List, [], length, drop, Result, Ok, Err, nat_lt, if◌then◌else◌}
use Rattle.fx_lexer.specs.declared.fault.SourceFault.{SourceFault}
use Rattle.fx_lexer.specs.declared.fault.SourceKind.TheVariants as kinds
use Rattle.fx_lexer.specs.Tokens.{Lexeme}
use Rattle.fx_grammar.specs.declared.head.Head.TheVariants as heads
use Rattle.fx_grammar.specs.Heads.{◌==ₕ◌}
use Rattle.fx_model.specs.Limits.{node_limit}
use Rattle.fx_model.specs.Function.{Function, Demand}
use Rattle.fx_model.specs.Steps.{◌>>=◌}
use Rattle.fx_grammar.specs.Steps.{Text, Tokens, Parsed, fault, next_head, wrong, want, past_semicolon, listed, has_name}
use Rattle.fx_grammar.specs.Ranges.{Subjects, names_of, require_at}
use Rattle.fx_grammar.specs.Fronts.{Declared, param_at, states_at, type_at}
use Rattle.fx_grammar.specs.Bodies.{Body, vals_at, result_at, count_of}
use Rattle.fx_grammar.specs.Ensuring.{maybe_ensuring_at, demands_at, first_place}

-- the word require, or the fault that there is none
unfoldable pub require_word_at : ℕ → Subjects → Tokens → Result Tokens SourceFault
require_word_at end subjects ts =
    if next_head ts ==ₕ heads.Require then Ok (drop 1 ts) else (
    if next_head ts ==ₕ heads.Unsupported then Err (wrong end ts) else Err (fault (first_place subjects) kinds.NoRange))

-- a function has a name that none before it has
abbrev pub new_name : List Text → Lexeme → Result (Unit {0}) SourceFault
new_name names t = if has_name names t.text then Err (fault t.at kinds.NamedTwice) else Ok tt

-- what stands before the brace: the name, the parameters, the states and how many Real the type has
pub record Front : Type 0 where
  pub name : Text
  pub subjects : Subjects
  pub declared : Declared
  pub reals : ℕ

-- "def" name "(" params ")" [ states ] ":" type "=" "{", behind the word
unfoldable pub front_at : ℕ → List Text → Tokens → Parsed Front
front_at end functions ts = do
  t ← want end heads.Name ts
  _ ← new_name functions t.0
  o ← want end heads.Open t.1
  subjects ← listed (param_at end) end [] o.1
  declared ← states_at end (names_of subjects.0) subjects.1
  c ← want end heads.Colon declared.1
  reals ← type_at end (length declared.0.states) c.1
  e ← want end heads.Equals reals.1
  b ← want end heads.OpenBrace e.1
  Ok (record { name = t.0.text; subjects = subjects.0; declared = declared.0; reals = reals.0 }, b.1)

-- the body behind the brace, with no temps yet
abbrev pub body_of : Front → Body
body_of f = record {
  names = f.declared.names;
  inputs = length f.subjects;
  states = length f.declared.states;
  temps = [];
  nodes = 0;
}

-- a function of so many nodes, or the fault at its word
abbrev pub within_nodes : ℕ → ℕ → Result (Unit {0}) SourceFault
within_nodes word nodes = if nat_lt node_limit nodes then Err (fault word kinds.TooMany) else Ok tt

-- the brace and the demands; where both fail at the end, too many nodes come before ends in the wrong order
-- [ ";" ] "}" [ ensuring ], where a function has so many nodes and outputs
unfoldable pub ending_at : ℕ → ℕ → ℕ → ℕ → Tokens → Parsed (List Demand)
ending_at end word nodes outputs ts = do
  c ← want end heads.CloseBrace (past_semicolon ts)
  subjects ← maybe_ensuring_at end outputs c.1
  _ ← within_nodes word nodes
  demands ← demands_at subjects.0
  Ok (demands, subjects.1)

-- require { val } result [ ";" ] "}" [ ensuring ]
unfoldable pub body_at : ℕ → ℕ → Front → Tokens → Parsed Function
body_at end word f ts = do
  r ← require_word_at end f.subjects ts
  inputs ← require_at end f.subjects r
  b ← vals_at end (body_of f) (past_semicolon inputs.1)
  results ← result_at end word f.reals b.0 b.1
  demands ← ending_at end word (count_of b.0 (length results.0.trees) results.0.nodes)
      (f.reals - length f.declared.states) results.1
  Ok (
    record {
      name = f.name;
      inputs = inputs.0;
      states = f.declared.states;
      temps = b.0.temps;
      results = results.0.trees;
      demands = demands.0;
    },
    demands.1,
  )

-- def, behind the word, which stands at word
unfoldable pub def_at : ℕ → ℕ → List Text → Tokens → Parsed Function
def_at end word functions ts = do
  f ← front_at end functions ts
  body_at end word f.0 f.1
