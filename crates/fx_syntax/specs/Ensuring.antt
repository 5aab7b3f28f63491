-- What is demanded of outputs.
use Rattle.std.specs.Prelude.{◌≡◌, ℕ, false, List, [], ◌∷◌, ◌++◌, length, replicate, IfSome}
use Rattle.std.specs.Option.{option_map}
use Rattle.fx_rational.specs.Decimal.{decimal_value}
use Rattle.fx_rational.specs.Rational.{AtMost}
use Rattle.fx_model.specs.Function.{Demand, free}
use Rattle.fx_lexer.specs.Tokens.{Lexeme}
use Rattle.fx_grammar.specs.declared.head.Head.TheVariants as heads
use Rattle.fx_grammar.specs.Steps.{Tokens, has_name}
use Rattle.fx_grammar.specs.Ranges.{Subject, Subjects, new_subject, names_of}
use Rattle.fx_syntax.specs.Leaves.{IsNext, IsMark}
use Rattle.fx_syntax.specs.Runs.{IsSeparated, IsListed}
use Rattle.fx_syntax.specs.Conditions.{IsSimple}

-- the name of one more output
pub record IsOutput (before : Subjects) (ts : Tokens) (after : Subjects) (rest : Tokens) : Type 0 where
  pub name : Lexeme
  pub next : IsNext heads.Name ts name rest
  pub fresh : has_name (names_of before) name.text ≡ false
  pub value : after ≡ before ++ new_subject name ∷ []

-- names = name | "(" name { "," name } ")", of the outputs in order
pub data IsOutputs : Tokens → Subjects → Tokens → Type 0 where
  one : {ts rest : Tokens} {outputs : Subjects} → IsOutput [] ts outputs rest → IsOutputs ts outputs rest
  several : {ts us rest : Tokens} {outputs : Subjects} → IsMark heads.Open ts us →
      IsListed IsOutput [] us outputs rest → IsOutputs ts outputs rest

-- the error and the ends that are said of an output; of two ends the lower one isn't above the upper one
pub record IsDemandOf (s : Subject) (d : Demand) : Type 0 where
  pub err : d.err ≡ option_map decimal_value s.err
  pub lo : d.lo ≡ option_map decimal_value s.lo
  pub hi : d.hi ≡ option_map decimal_value s.hi
  pub ordered : IfSome d.lo (λ lo. IfSome d.hi (λ hi. AtMost lo hi))

-- each output with what is demanded of it
pub data AreDemandsOf : Subjects → List Demand → Type 0 where
  none : AreDemandsOf [] []
  one_more : {s : Subject} {d : Demand} {subjects : Subjects} {demands : List Demand} → IsDemandOf s d →
      AreDemandsOf subjects demands → AreDemandsOf (s ∷ subjects) (d ∷ demands)

-- ensuring = "ensuring" "(" names "=>" simple { "&&" simple } ")", behind the word
pub record IsEnsuring (count : ℕ) (ts : Tokens) (demands : List Demand) (rest : Tokens) : Type 0 where
  pub outputs : Subjects
  pub demanded : Subjects
  pub names : Tokens
  pub arrows : Tokens
  pub bounds : Tokens
  pub behind : Tokens
  pub opening : IsMark heads.Open ts names
  pub outputs_are : IsOutputs names outputs arrows
  pub arrow : IsMark heads.Arrow arrows bounds
  pub demanded_are : IsSeparated heads.And IsSimple outputs bounds demanded behind
  pub close : IsMark heads.Close behind rest
  pub as_many : length outputs ≡ count
  pub demands_are : AreDemandsOf demanded demands

-- [ ensuring ]: without it each output is free
pub data IsMaybeEnsuring (count : ℕ) : Tokens → List Demand → Tokens → Type 0 where
  left_out : {ts : Tokens} → IsMaybeEnsuring count ts (replicate count free) ts
  written : {ts us rest : Tokens} {demands : List Demand} → IsMark heads.Ensuring ts us →
      IsEnsuring count us demands rest → IsMaybeEnsuring count ts demands rest
