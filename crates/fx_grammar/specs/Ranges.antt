-- The conditions of require.
use Rattle.std.specs.Prelude.{◌==◌, ◌+◌, ◌-◌, ℕ, pos, Bool, true, false, not, ◌&&◌, ◌||◌, List, [], ◌∷◌, drop, map, Option, Some, None, Result, Ok, Err, slice_set, slice_index_or, if◌then◌else◌}
use Rattle.fx_rational.specs.Decimal.{Decimal, decimal_value}
use Rattle.fx_rational.specs.Rational.{is_at_most}
use Rattle.fx_model.specs.Function.{Input}
use Rattle.fx_lexer.specs.declared.fault.SourceFault.{SourceFault}
use Rattle.fx_lexer.specs.declared.fault.SourceKind.TheVariants as kinds
use Rattle.fx_lexer.specs.Tokens.{Lexeme}
use Rattle.fx_grammar.specs.declared.head.Head.{Head}
use Rattle.fx_grammar.specs.declared.aspect.Aspect.{Aspect}
use Rattle.fx_grammar.specs.declared.aspect.Aspect.TheVariants.{Low, High, Error}
use Rattle.fx_grammar.specs.declared.head.Head.TheVariants as heads
use Rattle.fx_grammar.specs.Heads.{head_of, ◌==ₕ◌}
use Rattle.fx_model.specs.Steps.{◌>>=◌}
use Rattle.fx_grammar.specs.Steps.{when, repeated, name_place, Text, Tokens, Parsed, fault, next_head, next_place, wrong, want, numeral_at, signed_at}

-- an input or an output: its name, the name's place, and what is said of it so far
pub record Subject : Type 0 where
  pub name : Text
  pub at : ℕ
  pub lo : Option Decimal
  pub hi : Option Decimal
  pub err : Option Decimal

-- the inputs or the outputs in their order
abbrev pub Subjects : Type 0
Subjects = List Subject

-- an input or an output of which nothing is said yet
abbrev pub new_subject : Lexeme → Subject
new_subject t = record { name = t.text; at = t.at; lo = None; hi = None; err = None }

-- their names in order
abbrev pub names_of : Subjects → List Text
names_of subjects = map (λ s. s.name) subjects

-- this is said
abbrev pub is_said : Option Decimal → Bool
is_said None = false
is_said (Some d) = true

-- what is said of this aspect
abbrev pub aspect_of : Aspect → Subject → Option Decimal
aspect_of Low s = s.lo
aspect_of High s = s.hi
aspect_of Error s = s.err

-- with this said
abbrev pub with_aspect : Aspect → Decimal → Subject → Subject
with_aspect Low d s = record s { lo = Some d }
with_aspect High d s = record s { hi = Some d }
with_aspect Error d s = record s { err = Some d }

-- the subject at a place learns one thing; t is its name where that is said
abbrev pub said_at : Aspect → Decimal → Lexeme → Subjects → ℕ → Subject → Result Subjects SourceFault
said_at aspect d t subjects k s = if is_said (aspect_of aspect s) then Err (fault t.at kinds.NamedTwice)
    else Ok (slice_set subjects k (with_aspect aspect d s))

-- the subject at a place that is there
abbrev pub subject_or : Subjects → ℕ → Subject
subject_or subjects k = slice_index_or subjects k (record { name = []; at = 0; lo = None; hi = None; err = None })

-- the subject at this place learns one thing, or it is said twice
unfoldable pub said : Aspect → Decimal → Lexeme → Subjects → ℕ → Result Subjects SourceFault
said aspect d t subjects k = said_at aspect d t subjects k (subject_or subjects k)

-- the place that was found, or the fault at the name
abbrev pub found_or : Lexeme → Option ℕ → Result ℕ SourceFault
found_or t None = Err (fault t.at kinds.UnknownName)
found_or t (Some k) = Ok k

-- the place of a name that must be known
unfoldable pub subject_at : Subjects → Lexeme → Result ℕ SourceFault
subject_at subjects t = found_or t (name_place (names_of subjects) t.text)

-- rel = "<" | "<=" | ">" | ">="
abbrev pub is_relation : Head → Bool
is_relation h = (h ==ₕ heads.Below) || ((h ==ₕ heads.AtMost) || ((h ==ₕ heads.Above) || (h ==ₕ heads.AtLeast)))

-- the relation says that its left side is the smaller one
abbrev pub is_upward : Head → Bool
is_upward h = (h ==ₕ heads.Below) || (h ==ₕ heads.AtMost)

-- name "+/-" number, behind the sign
unfoldable pub stated_error : ℕ → Subjects → Lexeme → ℕ → Tokens → Parsed Subjects
stated_error end subjects t k ts = do
  d ← numeral_at end ts
  s ← said Error d.0 t subjects k
  Ok (s, d.1)

-- name rel signed, behind the relation
unfoldable pub bound_at : ℕ → Subjects → Lexeme → ℕ → Aspect → Tokens → Parsed Subjects
bound_at end subjects t k aspect ts = if next_head ts ==ₕ heads.Name then Err (fault t.at kinds.Unsupported) else (do
  d ← signed_at end ts
  s ← said aspect d.0 t subjects k
  Ok (s, d.1))

-- a condition that begins with a name
unfoldable pub name_first : ℕ → Subjects → Tokens → Parsed Subjects
name_first end subjects ts = do
  t ← want end heads.Name ts
  k ← subject_at subjects t.0
  if next_head t.1 ==ₕ heads.PlusMinus then stated_error end subjects t.0 k (drop 1 t.1) else (
      if is_relation (next_head t.1)
      then bound_at end subjects t.0 k (if is_upward (next_head t.1) then High else Low) (drop 1 t.1)
      else Err (wrong end t.1))

-- a number stands next, with or without a minus
abbrev pub is_signed : Tokens → Bool
is_signed ts =
    (next_head ts ==ₕ heads.Number) || ((next_head ts ==ₕ heads.Minus) && (next_head (drop 1 ts) ==ₕ heads.Number))

-- signed rel name, behind the relation; the condition begins at first
unfoldable pub behind_relation : ℕ → ℕ → Subjects → Decimal → Aspect → Tokens → Parsed Subjects
behind_relation end first subjects d aspect ts = if is_signed ts then Err (fault first kinds.Unsupported) else (do
  t ← want end heads.Name ts
  k ← subject_at subjects t.0
  s ← said aspect d t.0 subjects k
  Ok (s, t.1))

-- a condition that begins with a number
unfoldable pub number_first : ℕ → Subjects → Tokens → Parsed Subjects
number_first end subjects ts = do
  d ← signed_at end ts
  if is_relation (next_head d.1)
      then behind_relation end (next_place end ts) subjects d.0 (if is_upward (next_head d.1) then Low
      else High) (drop 1 d.1)
      else Err (wrong end d.1)

-- a condition without parentheses around it
unfoldable pub condition_at : ℕ → Subjects → Tokens → Parsed Subjects
condition_at end subjects ts =
    if next_head ts ==ₕ heads.Name then name_first end subjects ts else number_first end subjects ts

-- what was read of the conditions: how many parentheses are open, whether a condition is due, what was said
pub record Conditions : Type 0 where
  pub depth : ℕ
  pub wants : Bool
  pub subjects : Subjects

-- a parenthesis is still open
abbrev pub are_open : Conditions → Tokens → Bool
are_open c ts = not (c.depth == 0)

-- where a condition is due: one more parenthesis, or the condition
abbrev pub wanted_at : ℕ → Conditions → Tokens → Parsed Conditions
wanted_at end c [] = Err (fault end kinds.EndOfText)
wanted_at end c (t ∷ ts) = if head_of t ==ₕ heads.Open
    then Ok (record c { depth = c.depth + 1 }, ts)
    else (condition_at end c.subjects (t ∷ ts) >>= λ x. Ok (
      record { depth = c.depth; wants = false; subjects = x.0 },
      x.1,
    ))

-- behind a condition: a parenthesis that closes, or && and another condition is due
abbrev pub read_at : ℕ → Conditions → Tokens → Parsed Conditions
read_at end c [] = Err (fault end kinds.EndOfText)
read_at end c (t ∷ ts) =
    if head_of t ==ₕ heads.Close then Ok (record c { depth = c.depth - 1 }, ts) else (
    if head_of t ==ₕ heads.And then Ok (record c { wants = true }, ts) else Err (wrong end (t ∷ ts)))

-- one parenthesis, one condition or one && of the conditions
unfoldable pub conditions_step : ℕ → Conditions → Tokens → Parsed Conditions
conditions_step end c ts = if c.wants then wanted_at end c ts else read_at end c ts

-- conds and the parenthesis that closes them
unfoldable pub conditions_at : ℕ → Conditions → Tokens → Parsed Conditions
conditions_at end c ts = do
  x ← conditions_step end c ts
  repeated are_open (conditions_step end) x.0 x.1

-- what wasn't said is zero
abbrev pub or_zero : Option Decimal → Decimal
or_zero None = record { a = pos 0; b = 0 }
or_zero (Some d) = d

-- the input with its range and its error, which is zero where none is given
abbrev pub declared_input : Subject → Input
declared_input s = record {
  name = s.name;
  lo = decimal_value (or_zero s.lo);
  hi = decimal_value (or_zero s.hi);
  err = decimal_value (or_zero s.err);
}

-- the lower or the upper end is not given
abbrev pub is_lacking : Subject → Bool
is_lacking s = not (is_said s.lo && is_said s.hi)

-- the lower end lies above the upper one
abbrev pub is_empty_range : Subject → Bool
is_empty_range s = not (is_at_most (decimal_value (or_zero s.lo)) (decimal_value (or_zero s.hi)))

-- the first subject that fails a test gives the fault
unfoldable pub all_pass : (Subject → Bool) → (ℕ → SourceFault) → Subjects → Result (Unit {0}) SourceFault
all_pass fails faulty [] = Ok tt
all_pass fails faulty (s ∷ subjects) = when (fails s) (λ _. Err (faulty s.at)) (λ _. all_pass fails faulty subjects)

-- the inputs, if each has both ends, and then if no range is empty
unfoldable pub inputs_at : Subjects → Result (List Input) SourceFault
inputs_at subjects = do
  _ ← all_pass is_lacking (λ at. fault at kinds.NoRange) subjects
  _ ← all_pass is_empty_range (λ at. fault at kinds.EmptyRange) subjects
  Ok (map declared_input subjects)

-- require = "require" "(" conds ")" [ ";" ], behind the word
unfoldable pub require_at : ℕ → Subjects → Tokens → Parsed (List Input)
require_at end subjects ts = do
  o ← want end heads.Open ts
  x ← conditions_at end (record { depth = 1; wants = true; subjects = subjects }) o.1
  inputs ← inputs_at x.0.subjects
  Ok (inputs, x.1)
