-- The front of a function: its parameters, its states and its type.
use Rattle.std.specs.Prelude.{◌≡◌, ℕ, ◌+◌, ◌<◌, false, List, [], ◌∷◌, ◌++◌, length}
use Rattle.fx_rational.specs.Decimal.{Decimal, decimal_value}
use Rattle.fx_lexer.specs.Tokens.{Lexeme}
use Rattle.fx_grammar.specs.declared.head.Head.TheVariants as heads
use Rattle.fx_grammar.specs.Steps.{Text, Tokens, has_name}
use Rattle.fx_grammar.specs.Ranges.{Subjects, new_subject, names_of}
use Rattle.fx_grammar.specs.Fronts.{Declared}
use Rattle.fx_syntax.specs.Leaves.{IsNext, IsMark, IsReal, IsSigned}
use Rattle.fx_syntax.specs.Runs.{IsListed}
use Rattle.fx_model.specs.Limits.{input_limit, state_limit, output_limit}

-- name ":" "Real"
pub record IsTyped (ts : Tokens) (name : Lexeme) (rest : Tokens) : Type 0 where
  pub colons : Tokens
  pub reals : Tokens
  pub name_next : IsNext heads.Name ts name colons
  pub colon : IsMark heads.Colon colons reals
  pub real : IsReal reals rest

-- param = name ":" "Real", behind these; at most 64, and their names differ
pub record IsParam (before : Subjects) (ts : Tokens) (after : Subjects) (rest : Tokens) : Type 0 where
  pub name : Lexeme
  pub typed : IsTyped ts name rest
  pub few : length before < input_limit
  pub fresh : has_name (names_of before) name.text ≡ false
  pub value : after ≡ before ++ new_subject name ∷ []

-- the states with one more, whose name is known from there on
abbrev pub with_state : Declared → Text → Decimal → Declared
with_state before name start = record {
  names = before.names ++ name ∷ [];
  states = before.states ++ record { name = name; start = decimal_value start } ∷ [];
}

-- state = name ":" "Real" "=" signed; at most 32, and no input or state before has the name
pub record IsState (before : Declared) (ts : Tokens) (after : Declared) (rest : Tokens) : Type 0 where
  pub name : Lexeme
  pub start : Decimal
  pub signs : Tokens
  pub starts : Tokens
  pub typed : IsTyped ts name signs
  pub equals : IsMark heads.Equals signs starts
  pub start_is : IsSigned starts start rest
  pub few : length before.states < state_limit
  pub fresh : has_name before.names name.text ≡ false
  pub value : after ≡ with_state before name.text start

-- [ "(" state { "," state } ")" ]
pub data IsStates (inputs : List Text) : Tokens → Declared → Tokens → Type 0 where
  none : {ts : Tokens} → IsStates inputs ts (record { names = inputs; states = [] }) ts
  listed : {ts us rest : Tokens} {d : Declared}
      → IsMark heads.Open ts us → IsListed IsState (record { names = inputs; states = [] }) us d rest →
      IsStates inputs ts d rest

-- "Real", one more than so many, and at most 64 more than the states
pub record IsOneReal (states : ℕ) (before : ℕ) (ts : Tokens) (after : ℕ) (rest : Tokens) : Type 0 where
  pub real : IsReal ts rest
  pub few : before < states + output_limit
  pub value : after ≡ before + 1

-- type = "Real" | "(" "Real" { "," "Real" } ")", of so many Real, more than the states
pub data IsType (states : ℕ) : Tokens → ℕ → Tokens → Type 0 where
  single : {ts rest : Tokens} {reals : ℕ} → IsOneReal states 0 ts reals rest → states < reals →
      IsType states ts reals rest
  several : {ts us rest : Tokens} {reals : ℕ} → IsMark heads.Open ts us → IsListed (IsOneReal states) 0 us reals rest →
      states < reals → IsType states ts reals rest
