-- The front of a function: parameters, states and the type.
use Rattle.std.specs.Prelude.{◌+◌, ℕ, List, [], ◌∷◌, ◌++◌, length, drop, Ok, Err, nat_lt, nat_le, if◌then◌else◌}
use Rattle.fx_lexer.specs.declared.fault.SourceKind.TheVariants as kinds
use Rattle.fx_rational.specs.Decimal.{decimal_value}
use Rattle.fx_grammar.specs.declared.head.Head.TheVariants as heads
use Rattle.fx_grammar.specs.Heads.{◌==ₕ◌}
use Rattle.fx_model.specs.Limits.{input_limit, state_limit, output_limit}
use Rattle.fx_model.specs.Function.{State}
use Rattle.fx_model.specs.Steps.{◌>>=◌}
use Rattle.fx_grammar.specs.Steps.{Text, Tokens, Parsed, fault, next_head, next_place, want, real_at, signed_at, listed, free_at}
use Rattle.fx_grammar.specs.Ranges.{Subjects, new_subject, names_of}

-- param = name ":" "Real"
unfoldable pub param_at : ℕ → Subjects → Tokens → Parsed Subjects
param_at end subjects ts = do
  t ← want end heads.Name ts
  _ ← free_at input_limit (length subjects) (names_of subjects) t.0
  c ← want end heads.Colon t.1
  r ← real_at end c.1
  Ok (subjects ++ new_subject t.0 ∷ [], r.1)

-- the states so far, and the names of inputs and states
pub record Declared : Type 0 where
  pub names : List Text
  pub states : List State

-- state = name ":" "Real" "=" signed
unfoldable pub declared_state : ℕ → Declared → Tokens → Parsed Declared
declared_state end h ts = do
  t ← want end heads.Name ts
  _ ← free_at state_limit (length h.states) h.names t.0
  c ← want end heads.Colon t.1
  r ← real_at end c.1
  e ← want end heads.Equals r.1
  d ← signed_at end e.1
  Ok (
    record {
      names = h.names ++ t.0.text ∷ [];
      states = h.states ++ record { name = t.0.text; start = decimal_value d.0 } ∷ [];
    },
    d.1,
  )

-- [ "(" state { "," state } ")" ]
unfoldable pub states_at : ℕ → List Text → Tokens → Parsed Declared
states_at end inputs ts = if next_head ts ==ₕ heads.Open
    then listed (declared_state end) end (record { names = inputs; states = [] }) (drop 1 ts)
    else Ok (record { names = inputs; states = [] }, ts)

-- one more Real of a type that begins at first
unfoldable pub one_real : ℕ → ℕ → ℕ → ℕ → Tokens → Parsed ℕ
one_real end first states n ts = do
  r ← real_at end ts
  if nat_lt (states + output_limit) (n + 1) then Err (fault first kinds.TooMany) else Ok (n + 1, r.1)

-- a type has more Real than there are states
abbrev pub more_than : ℕ → ℕ → ℕ × Tokens → Parsed ℕ
more_than first states x = if nat_le x.0 states then Err (fault first kinds.WrongArity) else Ok x

-- type = "Real" | "(" "Real" { "," "Real" } ")"
unfoldable pub type_at : ℕ → ℕ → Tokens → Parsed ℕ
type_at end states ts = if next_head ts ==ₕ heads.Open
    then (listed (one_real end (next_place end ts) states) end 0 (drop 1 ts) >>= more_than (next_place end ts) states)
    else (one_real end (next_place end ts) states 0 ts >>= more_than (next_place end ts) states)
