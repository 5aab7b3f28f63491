-- The conditions of require, and the ranges of the inputs.
use Rattle.std.specs.Prelude.{◌≡◌, ℕ, List, [], ◌∷◌, Some, None, slice_set}
use Rattle.fx_rational.specs.Decimal.{Decimal, decimal_value}
use Rattle.fx_rational.specs.Rational.{AtMost}
use Rattle.fx_model.specs.Function.{Input}
use Rattle.fx_lexer.specs.Tokens.{Lexeme}
use Rattle.fx_grammar.specs.declared.head.Head.{Head}
use Rattle.fx_grammar.specs.declared.head.Head.TheVariants as heads
use Rattle.fx_grammar.specs.declared.aspect.Aspect.{Aspect}
use Rattle.fx_grammar.specs.declared.aspect.Aspect.TheVariants.{Low, High, Error}
use Rattle.fx_grammar.specs.Steps.{Tokens, name_place}
use Rattle.fx_grammar.specs.Ranges.{Subject, Subjects, names_of, aspect_of, with_aspect, subject_or, or_zero}
use Rattle.fx_syntax.specs.Leaves.{IsNext, IsMark, IsNumber, IsSigned}

-- one thing is said of the subject of this name, for the first time
pub record IsSaid (aspect : Aspect) (d : Decimal) (name : Lexeme) (before after : Subjects) : Type 0 where
  pub place : ℕ
  pub known : name_place (names_of before) name.text ≡ Some place
  pub fresh : aspect_of aspect (subject_or before place) ≡ None
  pub value : after ≡ slice_set before place (with_aspect aspect d (subject_or before place))

-- rel = "<" | "<=" | ">" | ">=": which end of the name on its left the number on its right gives, and conversely
pub data IsRelation : Head → Aspect → Aspect → Type 0 where
  below : IsRelation heads.Below High Low
  at_most : IsRelation heads.AtMost High Low
  above : IsRelation heads.Above Low High
  at_least : IsRelation heads.AtLeast Low High

-- name rel signed
pub record IsNameFirst (before : Subjects) (ts : Tokens) (after : Subjects) (rest : Tokens) : Type 0 where
  pub name : Lexeme
  pub head : Head
  pub left : Aspect
  pub right : Aspect
  pub number : Decimal
  pub signs : Tokens
  pub numbers : Tokens
  pub name_next : IsNext heads.Name ts name signs
  pub sign : IsMark head signs numbers
  pub relation : IsRelation head left right
  pub number_is : IsSigned numbers number rest
  pub said : IsSaid left number name before after

-- signed rel name
pub record IsNumberFirst (before : Subjects) (ts : Tokens) (after : Subjects) (rest : Tokens) : Type 0 where
  pub name : Lexeme
  pub head : Head
  pub left : Aspect
  pub right : Aspect
  pub number : Decimal
  pub signs : Tokens
  pub names : Tokens
  pub number_is : IsSigned ts number signs
  pub sign : IsMark head signs names
  pub relation : IsRelation head left right
  pub name_next : IsNext heads.Name names name rest
  pub said : IsSaid right number name before after

-- name "+/-" number, of an input or of an output
pub record IsErrorOf (before : Subjects) (ts : Tokens) (after : Subjects) (rest : Tokens) : Type 0 where
  pub name : Lexeme
  pub number : Decimal
  pub signs : Tokens
  pub numbers : Tokens
  pub name_next : IsNext heads.Name ts name signs
  pub sign : IsMark heads.PlusMinus signs numbers
  pub number_is : IsNumber numbers number rest
  pub said : IsSaid Error number name before after

-- simple = signed rel name | name rel signed | name "+/-" number: a condition without parentheses, or a demand
pub data IsSimple (before : Subjects) (ts : Tokens) (after : Subjects) (rest : Tokens) : Type 0 where
  number_first : IsNumberFirst before ts after rest → IsSimple before ts after rest
  name_first : IsNameFirst before ts after rest → IsSimple before ts after rest
  error_of : IsErrorOf before ts after rest → IsSimple before ts after rest

mutual
  -- conds = cond { "&&" cond }
  pub data IsConditions : Subjects → Tokens → Subjects → Tokens → Type 0 where
    last : {s after : Subjects} {ts rest : Tokens} → IsCondition s ts after rest → IsConditions s ts after rest
    both : {s between after : Subjects} {ts us vs rest : Tokens}
        → IsCondition s ts between us → IsMark heads.And us vs → IsConditions between vs after rest →
        IsConditions s ts after rest

  -- cond = "(" conds ")" | simple
  pub data IsCondition : Subjects → Tokens → Subjects → Tokens → Type 0 where
    nested : {s after : Subjects} {ts us vs rest : Tokens}
        → IsMark heads.Open ts us → IsConditions s us after vs → IsMark heads.Close vs rest →
        IsCondition s ts after rest
    simple : {s after : Subjects} {ts rest : Tokens} → IsSimple s ts after rest → IsCondition s ts after rest

-- both ends of an input are given, the lower one isn't above the upper one; an error that isn't given is zero
pub record IsInputOf (s : Subject) (x : Input) : Type 0 where
  pub lo : Decimal
  pub hi : Decimal
  pub low : s.lo ≡ Some lo
  pub high : s.hi ≡ Some hi
  pub ordered : AtMost (decimal_value lo) (decimal_value hi)
  pub value : x ≡ record {
    name = s.name;
    lo = decimal_value lo;
    hi = decimal_value hi;
    err = decimal_value (or_zero s.err);
  }

-- each parameter with the input that it is
pub data AreInputsOf : Subjects → List Input → Type 0 where
  none : AreInputsOf [] []
  one_more : {s : Subject} {x : Input} {subjects : Subjects} {inputs : List Input} → IsInputOf s x →
      AreInputsOf subjects inputs → AreInputsOf (s ∷ subjects) (x ∷ inputs)

-- require = "require" "(" conds ")", behind the word
pub record IsRequire (subjects : Subjects) (ts : Tokens) (inputs : List Input) (rest : Tokens) : Type 0 where
  pub conditions : Tokens
  pub behind : Tokens
  pub after : Subjects
  pub opening : IsMark heads.Open ts conditions
  pub conditions_are : IsConditions subjects conditions after behind
  pub close : IsMark heads.Close behind rest
  pub ranges : AreInputsOf after inputs
