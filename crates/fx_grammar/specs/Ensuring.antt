-- What is demanded of outputs.
use Rattle.std.specs.Prelude.{◌==◌, ◌&&◌, ℕ, Bool, List, [], ◌∷◌, ◌++◌, length, drop, map, replicate, None, Result, Ok, Err, if◌then◌else◌}
use Rattle.std.specs.Option.{option_map}
use Rattle.fx_lexer.specs.declared.fault.SourceFault.{SourceFault}
use Rattle.fx_lexer.specs.declared.fault.SourceKind.TheVariants as kinds
use Rattle.fx_rational.specs.Decimal.{decimal_value}
use Rattle.fx_grammar.specs.declared.head.Head.TheVariants as heads
use Rattle.fx_grammar.specs.Heads.{◌==ₕ◌}
use Rattle.fx_model.specs.Function.{Demand}
use Rattle.fx_model.specs.Steps.{◌>>=◌}
use Rattle.fx_grammar.specs.Steps.{Tokens, Parsed, fault, next_head, want, separated, listed, has_name}
use Rattle.fx_grammar.specs.Ranges.{Subject, Subjects, new_subject, names_of, is_said, is_empty_range, all_pass, condition_at}

-- an output's name behind those that were read, which has to be new
unfoldable pub output_at : ℕ → Subjects → Tokens → Parsed Subjects
output_at end subjects ts = do
  t ← want end heads.Name ts
  if has_name (names_of subjects) t.0.text then Err (fault t.0.at kinds.NamedTwice)
      else Ok (subjects ++ new_subject t.0 ∷ [], t.1)

-- where the first name stands
abbrev pub first_place : Subjects → ℕ
first_place [] = 0
first_place (s ∷ subjects) = s.at

-- as many names as there are outputs
abbrev pub of_arity : ℕ → Subjects × Tokens → Parsed Subjects
of_arity outputs x = if length x.0 == outputs then Ok x else Err (fault (first_place x.0) kinds.WrongArity)

-- names = name | "(" name { "," name } ")"
unfoldable pub outputs_at : ℕ → ℕ → Tokens → Parsed Subjects
outputs_at end outputs ts = if next_head ts ==ₕ heads.Open
    then (listed (output_at end) end [] (drop 1 ts) >>= of_arity outputs)
    else (output_at end [] ts >>= of_arity outputs)

-- what is said of an output
abbrev pub declared_demand : Subject → Demand
declared_demand s = record {
  err = option_map decimal_value s.err;
  lo = option_map decimal_value s.lo;
  hi = option_map decimal_value s.hi;
}

-- both ends are given, and the lower one lies above the upper one
abbrev pub is_empty_demand : Subject → Bool
is_empty_demand s = is_said s.lo && (is_said s.hi && is_empty_range s)

-- the demands, if no two ends are in the wrong order
unfoldable pub demands_at : Subjects → Result (List Demand) SourceFault
demands_at subjects = do
  _ ← all_pass is_empty_demand (λ at. fault at kinds.EmptyRange) subjects
  Ok (map declared_demand subjects)

-- demand = name "+/-" number | signed rel name | name rel signed
-- ensuring = "ensuring" "(" names "=>" demand { "&&" demand } ")", behind the word
unfoldable pub ensuring_at : ℕ → ℕ → Tokens → Parsed Subjects
ensuring_at end outputs ts = do
  o ← want end heads.Open ts
  names ← outputs_at end outputs o.1
  a ← want end heads.Arrow names.1
  subjects ← separated heads.And (condition_at end) names.0 a.1
  c ← want end heads.Close subjects.1
  Ok (subjects.0, c.1)

-- an output of which nothing is said
abbrev pub unsaid : Subject
unsaid = record { name = []; at = 0; lo = None; hi = None; err = None }

-- [ ensuring ]: without it nothing is said of any output
unfoldable pub maybe_ensuring_at : ℕ → ℕ → Tokens → Parsed Subjects
maybe_ensuring_at end outputs ts =
    if next_head ts ==ₕ heads.Ensuring then ensuring_at end outputs (drop 1 ts) else Ok (replicate outputs unsaid, ts)
