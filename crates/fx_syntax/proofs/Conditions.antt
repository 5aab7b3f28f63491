-- Single conditions, and the ranges that they give, read and spelled.
use Rattle.std.proofs.Common.{◌≡◌, ℕ, ◌<◌, Bool, true, false, cond, List, [], ◌∷◌, map, length, drop, Option, Some, None, Ok, Err, refl, sym, ap, subst, ◌∙◌, arith}
use Rattle.std.specs.Prelude.{◌&&◌, ◌||◌, not}
use Rattle.std.proofs.lemmas.Bool.{and_parts, not-false}
use Rattle.fx_rational.specs.Decimal.{Decimal, decimal_value}
use Rattle.fx_rational.specs.Rational.{is_at_most}
use Rattle.fx_rational.proofs.Tests.{at_most_true, at_most_test}
use Rattle.fx_model.specs.Function.{Input}
use Rattle.fx_lexer.specs.declared.fault.SourceFault.{SourceFault}
use Rattle.fx_lexer.specs.declared.fault.SourceKind.TheVariants as kinds
use Rattle.fx_lexer.specs.Tokens.{Lexeme}
use Rattle.fx_grammar.specs.declared.head.Head.{Head}
use Rattle.fx_grammar.specs.declared.head.Head.TheVariants as heads
use Rattle.fx_grammar.specs.declared.aspect.Aspect.{Aspect}
use Rattle.fx_grammar.specs.declared.aspect.Aspect.TheVariants.{Low, High, Error}
use Rattle.fx_grammar.specs.Heads.{◌==ₕ◌}
use Rattle.fx_grammar.specs.Steps.{Tokens, fault, next_head, next_place, name_place, when}
use Rattle.fx_grammar.specs.Ranges.{Subject, Subjects, names_of, is_said, aspect_of, subject_or, said, found_or, subject_at, is_relation, is_upward, stated_error, bound_at, name_first, is_signed, behind_relation, number_first, condition_at, declared_input, or_zero, is_lacking, is_empty_range, all_pass, inputs_at}
use Rattle.fx_syntax.specs.Leaves.{IsNext, IsNumber, IsSigned, plain, negative}
use Rattle.fx_syntax.specs.Conditions as syntax
use Rattle.fx_syntax.specs.Conditions.{IsSaid, IsRelation, below, at_most, above, at_least, IsNameFirst, IsNumberFirst, IsErrorOf, IsSimple, error_of, IsInputOf, AreInputsOf, none, one_more}
use Rattle.fx_syntax.proofs.Outcomes.{OnOk, answered, done, failed, and_then, choose, weaken, steps, on_true, on_false}
use Rattle.fx_syntax.proofs.Marks.{mark, same_head, next_is, is_next, not_next, next_head_is, behind_is, next_shorter, want_spells, want_reads, number_spells, number_reads, signed_spells, signed_reads, signed_shorter}
use Rattle.fx_syntax.proofs.Repeats.{when_false}

-- ---- what is said of a subject

-- the place of a known name
pub found_spells : (t : Lexeme) (o : Option ℕ) → OnOk (λ k. o ≡ Some k) (found_or t o)
found_spells t None = failed
found_spells t (Some k) = done refl

pub subject_spells : (subjects : Subjects) (t : Lexeme) →
    OnOk (λ k. name_place (names_of subjects) t.text ≡ Some k) (subject_at subjects t)
unfolding subject_at
subject_spells subjects t = found_spells t (name_place (names_of subjects) t.text)

pub subject_reads : (subjects : Subjects) (t : Lexeme) (k : ℕ) → name_place (names_of subjects) t.text ≡ Some k →
    subject_at subjects t ≡ Ok k
unfolding subject_at
subject_reads subjects t k e = ap (found_or t) e

none_is : (o : Option Decimal) → is_said o ≡ false → o ≡ None
none_is None e = refl
none_is (Some d) e = absurd cc

pub said_spells : (aspect : Aspect) (d : Decimal) (t : Lexeme) (subjects : Subjects) (k : ℕ) →
    name_place (names_of subjects) t.text ≡ Some k → OnOk (IsSaid aspect d t subjects) (said aspect d t subjects k)
unfolding said
said_spells aspect d t subjects k p =
    choose (is_said (aspect_of aspect (subject_or subjects k))) (λ e. failed)
    (λ e. done (record { place = k; known = p; fresh = none_is _ e; value = refl }))

pub said_reads : (aspect : Aspect) (d : Decimal) (t : Lexeme) (before after : Subjects)
    (i : IsSaid aspect d t before after) → said aspect d t before i.place ≡ Ok after
unfolding said
said_reads aspect d t before after i = on_false _ (ap is_said i.fresh) (ap (λ (s : Subjects). Ok s) (sym i.value))

-- ---- relations

-- which end of the name on the left, and of that on the right
pub on_left : Head → Aspect
on_left h = cond (is_upward h) High Low

pub on_right : Head → Aspect
on_right h = cond (is_upward h) Low High

relation_spells : (h : Head) → is_relation h ≡ true → IsRelation h (on_left h) (on_right h)
unfolding on_left on_right
relation_spells heads.Below e = below
relation_spells heads.AtMost e = at_most
relation_spells heads.Above e = above
relation_spells heads.AtLeast e = at_least
relation_spells _ e = absurd cc

-- a relation is a sign of its own, and gives these ends
record IsSign (h : Head) (left right : Aspect) : Type 0 where
  relation : is_relation h ≡ true
  error : (h ==ₕ heads.PlusMinus) ≡ false
  end : (h ==ₕ heads.End) ≡ false
  on_left : on_left h ≡ left
  on_right : on_right h ≡ right

relation_reads : {h : Head} {left right : Aspect} → IsRelation h left right → IsSign h left right
unfolding on_left on_right
relation_reads below = record { relation = refl; error = refl; end = refl; on_left = refl; on_right = refl }
relation_reads at_most = record { relation = refl; error = refl; end = refl; on_left = refl; on_right = refl }
relation_reads above = record { relation = refl; error = refl; end = refl; on_left = refl; on_right = refl }
relation_reads at_least = record { relation = refl; error = refl; end = refl; on_left = refl; on_right = refl }

relation_some : (h : Head) → is_relation h ≡ true → (h ==ₕ heads.End) ≡ false
relation_some heads.End e = absurd cc
relation_some _ e = refl

-- ---- conditions without parentheses around them

error_spells : (end : ℕ) (subjects : Subjects) (ts : Tokens) (t u : Lexeme) (k : ℕ) (signs numbers : Tokens)
    → IsNext heads.Name ts t signs → IsNext heads.PlusMinus signs u numbers →
    name_place (names_of subjects) t.text ≡ Some k
    → OnOk (λ x. IsErrorOf subjects ts x.0 x.1) (stated_error end subjects t k numbers)
unfolding stated_error
error_spells end subjects ts t u k signs numbers n sign p =
    and_then (number_spells end numbers) (λ d number.
    and_then (said_spells Error d.0 t subjects k p) (λ s said.
    done (record {
      name = t;
      number = d.0;
      signs = signs;
      numbers = numbers;
      name_next = n;
      sign = mark sign;
      number_is = number;
      said = said;
    })))

error_reads : (end : ℕ) (before : Subjects) (after : Subjects) (numbers : Tokens) (t : Lexeme) (d : Decimal)
    (rest : Tokens) → IsNumber numbers d rest → (i : IsSaid Error d t before after)
    → stated_error end before t i.place numbers ≡ Ok (after, rest)
unfolding stated_error
error_reads end before after numbers t d rest n i =
    steps _ (number_reads end n) (steps _ (said_reads Error d t before after i) refl)

name_first_spells : (end : ℕ) (s : Subjects) (ts : Tokens) → OnOk (λ x. IsSimple s ts x.0 x.1) (name_first end s ts)
unfolding name_first bound_at on_left
name_first_spells end s ts =
    and_then (want_spells end heads.Name ts) (λ t n.
    and_then (subject_spells s t.0) (λ k p.
    choose (next_head t.1 ==ₕ heads.PlusMinus)
    (λ e. let u = next_is t.1 heads.PlusMinus (same_head _ _ e) refl in
    weaken (λ x i. error_of i) (error_spells end s ts t.0 u.0 k t.1 (drop 1 t.1) n u.1 p))
    (λ e. choose (is_relation (next_head t.1))
    (λ r. let u = next_is t.1 (next_head t.1) refl (relation_some _ r) in
    choose (next_head (drop 1 t.1) ==ₕ heads.Name) (λ e. failed) (λ e.
    and_then (signed_spells end (drop 1 t.1)) (λ d signed.
    and_then (said_spells (on_left (next_head t.1)) d.0 t.0 s k p) (λ s' said.
    done (syntax.name_first (record {
      name = t.0;
      head = next_head t.1;
      left = on_left (next_head t.1);
      right = on_right (next_head t.1);
      number = d.0;
      signs = t.1;
      numbers = drop 1 t.1;
      name_next = n;
      sign = mark u.1;
      relation = relation_spells _ r;
      number_is = signed;
      said = said;
    }))))))
    (λ r. failed))))

number_first_spells : (end : ℕ) (s : Subjects) (ts : Tokens) → OnOk (λ x. IsSimple s ts x.0 x.1) (number_first end s ts)
unfolding number_first behind_relation on_right
number_first_spells end s ts =
    and_then (signed_spells end ts) (λ d signed.
    choose (is_relation (next_head d.1))
    (λ r. let u = next_is d.1 (next_head d.1) refl (relation_some _ r) in
    choose (is_signed (drop 1 d.1)) (λ e. failed) (λ e.
    and_then (want_spells end heads.Name (drop 1 d.1)) (λ t n.
    and_then (subject_spells s t.0) (λ k p.
    and_then (said_spells (on_right (next_head d.1)) d.0 t.0 s k p) (λ s' said.
    done (syntax.number_first (record {
      name = t.0;
      head = next_head d.1;
      left = on_left (next_head d.1);
      right = on_right (next_head d.1);
      number = d.0;
      signs = d.1;
      names = drop 1 d.1;
      number_is = signed;
      sign = mark u.1;
      relation = relation_spells _ r;
      name_next = n;
      said = said;
    })))))))
    (λ r. failed))

pub condition_spells : (end : ℕ) (s : Subjects) (ts : Tokens) →
    OnOk (λ x. IsSimple s ts x.0 x.1) (condition_at end s ts)
unfolding condition_at
condition_spells end s ts =
    choose (next_head ts ==ₕ heads.Name) (λ e. name_first_spells end s ts) (λ e. number_first_spells end s ts)

-- ---- the other way

-- a number with or without a minus isn't a name, nor a parenthesis
signed_head : {ts : Tokens} {d : Decimal} {rest : Tokens} → IsSigned ts d rest →
    ((next_head ts ==ₕ heads.Name) ≡ false) × ((next_head ts ==ₕ heads.Open) ≡ false)
signed_head (plain n) = (not_next n.next heads.Name refl, not_next n.next heads.Open refl)
signed_head (negative s n) = (not_next s.next heads.Name refl, not_next s.next heads.Open refl)

name_not_signed : {ts : Tokens} {t : Lexeme} {us : Tokens} → IsNext heads.Name ts t us → is_signed ts ≡ false
name_not_signed {ts = ts} n =
    subst (λ h. ((h ==ₕ heads.Number) || ((h ==ₕ heads.Minus) && (next_head (drop 1 ts) ==ₕ heads.Number))) ≡ false)
    (sym (next_head_is n)) refl

bound_reads : (end : ℕ) (s after : Subjects) (ts rest : Tokens) (t : Lexeme) (d : Decimal) (aspect : Aspect) →
    IsSigned ts d rest → (i : IsSaid aspect d t s after) → bound_at end s t i.place aspect ts ≡ Ok (after, rest)
unfolding bound_at
bound_reads end s after ts rest t d aspect n i =
    on_false _ (signed_head n).0 (steps _ (signed_reads end n) (steps _ (said_reads aspect d t s after i) refl))

name_first_reads : (end : ℕ) (s : Subjects) (ts : Tokens) (after : Subjects) (rest : Tokens) →
    IsNameFirst s ts after rest → condition_at end s ts ≡ Ok (after, rest)
unfolding condition_at name_first on_left
name_first_reads end s ts after rest i =
    let sign = relation_reads i.relation in
    let head = next_head_is i.sign.next in
    on_true _ (is_next i.name_next) (
    steps _ (want_reads end i.name_next) (
    steps _ (subject_reads s i.name i.said.place i.said.known) (
    on_false _ (not_next i.sign.next heads.PlusMinus sign.error) (
    on_true _ (ap is_relation head ∙ sign.relation) (
    ap (λ aspect. bound_at end s i.name i.said.place aspect (drop 1 i.signs)) (ap on_left head ∙ sign.on_left)
    ∙ ap (bound_at end s i.name i.said.place i.left) (behind_is i.sign.next)
    ∙ bound_reads end s after i.numbers rest i.name i.number i.left i.number_is i.said)))))

behind_reads : (end first : ℕ) (s after : Subjects) (ts rest : Tokens) (t : Lexeme) (d : Decimal) (aspect : Aspect) →
    IsNext heads.Name ts t rest → IsSaid aspect d t s after → behind_relation end first s d aspect ts ≡ Ok (after, rest)
unfolding behind_relation
behind_reads end first s after ts rest t d aspect n i =
    on_false _ (name_not_signed n)
    (steps _ (want_reads end n)
    (steps _ (subject_reads s t i.place i.known) (steps _ (said_reads aspect d t s after i) refl)))

number_first_reads : (end : ℕ) (s : Subjects) (ts : Tokens) (after : Subjects) (rest : Tokens) →
    IsNumberFirst s ts after rest → condition_at end s ts ≡ Ok (after, rest)
unfolding condition_at number_first on_right
number_first_reads end s ts after rest i =
    let sign = relation_reads i.relation in
    let head = next_head_is i.sign.next in
    on_false _ (signed_head i.number_is).0 (
    steps _ (signed_reads end i.number_is) (
    on_true _ (ap is_relation head ∙ sign.relation) (
    ap (λ aspect. behind_relation end (next_place end ts) s i.number aspect (drop 1 i.signs)) (ap on_right head
    ∙ sign.on_right)
    ∙ ap (behind_relation end (next_place end ts) s i.number i.right) (behind_is i.sign.next)
    ∙ behind_reads end (next_place end ts) s after i.names rest i.name i.number i.right i.name_next i.said)))

error_of_reads : (end : ℕ) (s : Subjects) (ts : Tokens) (after : Subjects) (rest : Tokens) → IsErrorOf s ts after rest →
    condition_at end s ts ≡ Ok (after, rest)
unfolding condition_at name_first
error_of_reads end s ts after rest i =
    on_true _ (is_next i.name_next) (
    steps _ (want_reads end i.name_next) (
    steps _ (subject_reads s i.name i.said.place i.said.known) (
    on_true _ (is_next i.sign.next) (
    ap (stated_error end s i.name i.said.place) (behind_is i.sign.next)
    ∙ error_reads end s after i.numbers i.name i.number rest i.number_is i.said))))

pub simple_reads : (end : ℕ) (s : Subjects) (ts : Tokens) (after : Subjects) (rest : Tokens) →
    IsSimple s ts after rest → condition_at end s ts ≡ Ok (after, rest)
simple_reads end s ts after rest (syntax.number_first i) = number_first_reads end s ts after rest i
simple_reads end s ts after rest (syntax.name_first i) = name_first_reads end s ts after rest i
simple_reads end s ts after rest (error_of i) = error_of_reads end s ts after rest i

-- ---- how long a condition is, and how it begins

-- it isn't a parenthesis, and takes a token at least
pub record IsPlainStep (ts rest : Tokens) : Type 0 where
  pub head : (next_head ts ==ₕ heads.Open) ≡ false
  pub shorter : length rest < length ts

number_first_step : (s : Subjects) (ts : Tokens) (after : Subjects) (rest : Tokens) → IsNumberFirst s ts after rest →
    IsPlainStep ts rest
number_first_step s ts after rest i = record {
  head = (signed_head i.number_is).1;
  shorter = let a = signed_shorter i.number_is in let b = next_shorter i.sign.next in
      let c = next_shorter i.name_next in omega arith;
}

name_first_step : (s : Subjects) (ts : Tokens) (after : Subjects) (rest : Tokens) → IsNameFirst s ts after rest →
    IsPlainStep ts rest
name_first_step s ts after rest i = record {
  head = not_next i.name_next heads.Open refl;
  shorter = let a = signed_shorter i.number_is in let b = next_shorter i.sign.next in
      let c = next_shorter i.name_next in omega arith;
}

error_of_step : (s : Subjects) (ts : Tokens) (after : Subjects) (rest : Tokens) → IsErrorOf s ts after rest →
    IsPlainStep ts rest
error_of_step s ts after rest i = record {
  head = not_next i.name_next heads.Open refl;
  shorter = let a = next_shorter i.number_is.next in let b = next_shorter i.sign.next in
      let c = next_shorter i.name_next in omega arith;
}

pub simple_step : (s : Subjects) (ts : Tokens) (after : Subjects) (rest : Tokens) → IsSimple s ts after rest →
    IsPlainStep ts rest
simple_step s ts after rest (syntax.number_first i) = number_first_step s ts after rest i
simple_step s ts after rest (syntax.name_first i) = name_first_step s ts after rest i
simple_step s ts after rest (error_of i) = error_of_step s ts after rest i

-- ---- ranges

pub pass_spells : (fails : Subject → Bool) (faulty : ℕ →
    SourceFault) (s : Subject) (subjects : Subjects) (u : Unit {0}) → all_pass fails faulty (s ∷ subjects) ≡ Ok u →
    (fails s ≡ false) × (all_pass fails faulty subjects ≡ Ok u)
unfolding all_pass
pass_spells fails faulty s subjects u e = by (fails s) refl e
  where
    by : (b : Bool) → fails s ≡ b → when b (λ _. Err (faulty s.at)) (λ _. all_pass fails faulty subjects) ≡ Ok u →
        (fails s ≡ false) × (all_pass fails faulty subjects ≡ Ok u)
    by true p e = absurd cc
    by false p e = (p, e)

given_is : (o : Option Decimal) → is_said o ≡ true → (d : Decimal) × (o ≡ Some d)
given_is None e = absurd cc
given_is (Some d) e = (d, refl)

input_is : (s : Subject) → is_lacking s ≡ false → is_empty_range s ≡ false → IsInputOf s (declared_input s)
input_is s lacking empty =
    let given = and_parts (is_said s.lo) (is_said s.hi) (not-false _ lacking) in
    let lo = given_is s.lo given.0 in
    let hi = given_is s.hi given.1 in
    let le : is_at_most (decimal_value (or_zero s.lo)) (decimal_value (or_zero s.hi)) ≡ true = not-false _ empty in
    record {
      lo = lo.0;
      hi = hi.0;
      low = lo.1;
      high = hi.1;
      ordered =
          at_most_true _ _ (sym (ap (λ o. is_at_most (decimal_value (or_zero o)) (decimal_value (or_zero s.hi))) lo.1
          ∙ ap (λ o. is_at_most (decimal_value lo.0) (decimal_value (or_zero o))) hi.1) ∙ le);
      value =
          ap (λ o. record {
            name = s.name;
            lo = decimal_value (or_zero o);
            hi = decimal_value (or_zero s.hi);
            err = decimal_value (or_zero s.err);
          }) lo.1
          ∙ ap (λ o. record {
            name = s.name;
            lo = decimal_value lo.0;
            hi = decimal_value (or_zero o);
            err = decimal_value (or_zero s.err);
          }) hi.1;
    }

ranges_are : (lacks empties : ℕ → SourceFault) (subjects : Subjects) (u v : Unit {0}) →
    all_pass is_lacking lacks subjects ≡ Ok u → all_pass is_empty_range empties subjects ≡ Ok v →
    AreInputsOf subjects (map declared_input subjects)
ranges_are lacks empties [] u v e f = none
ranges_are lacks empties (s ∷ subjects) u v e f =
    let a = pass_spells is_lacking lacks s subjects u e in
    let b = pass_spells is_empty_range empties s subjects v f in
    one_more (input_is s a.0 b.0) (ranges_are lacks empties subjects u v a.1 b.1)

pub ranges_spell : (subjects : Subjects) → OnOk (AreInputsOf subjects) (inputs_at subjects)
unfolding inputs_at
ranges_spell subjects =
    and_then (answered (all_pass is_lacking (λ at. fault at kinds.NoRange) subjects)) (λ u e.
    and_then (answered (all_pass is_empty_range (λ at. fault at kinds.EmptyRange) subjects))
    (λ v f. done (ranges_are _ _ subjects u v e f)))

range_reads : (s : Subject) (x : Input) → IsInputOf s x →
    (is_lacking s ≡ false) × (is_empty_range s ≡ false) × (declared_input s ≡ x)
range_reads s x i = (
  ap (λ o. not (is_said o && is_said s.hi)) i.low ∙ ap (λ o. not (is_said o)) i.high,
  ap (λ o. not (is_at_most (decimal_value (or_zero o)) (decimal_value (or_zero s.hi)))) i.low
      ∙ ap (λ o. not (is_at_most (decimal_value i.lo) (decimal_value (or_zero o)))) i.high
      ∙ ap not (true_is (is_at_most (decimal_value i.lo) (decimal_value i.hi)) ((at_most_test _ _).1 i.ordered)),
  ap (λ o. record {
    name = s.name;
    lo = decimal_value (or_zero o);
    hi = decimal_value (or_zero s.hi);
    err = decimal_value (or_zero s.err);
  }) i.low
      ∙ ap (λ o. record {
        name = s.name;
        lo = decimal_value i.lo;
        hi = decimal_value (or_zero o);
        err = decimal_value (or_zero s.err);
      }) i.high
      ∙ sym i.value,
)
  where
    true_is : (b : Bool) → b ≡ true → b ≡ true
    true_is b e = e

pub subject_passes : (fails : Subject → Bool) (faulty : ℕ → SourceFault) (s : Subject) (subjects : Subjects) → fails s ≡ false →
    all_pass fails faulty subjects ≡ Ok tt → all_pass fails faulty (s ∷ subjects) ≡ Ok tt
unfolding all_pass
subject_passes fails faulty s subjects e f = when_false _ _ e ∙ f

record Ranged (lacks empties : ℕ → SourceFault) (subjects : Subjects) (inputs : List Input) : Type 0 where
  lacking : all_pass is_lacking lacks subjects ≡ Ok tt
  empty : all_pass is_empty_range empties subjects ≡ Ok tt
  same : map declared_input subjects ≡ inputs

ranged : (lacks empties : ℕ → SourceFault) {subjects : Subjects} {inputs : List Input} → AreInputsOf subjects inputs →
    Ranged lacks empties subjects inputs
unfolding all_pass
ranged lacks empties none = record { lacking = refl; empty = refl; same = refl }
ranged lacks empties (one_more {s = s} {x = x} {subjects = subjects} {inputs = inputs} i others) =
    let a = range_reads s x i in
    let b = ranged lacks empties others in
    record {
      lacking = subject_passes is_lacking lacks s subjects a.0 b.lacking;
      empty = subject_passes is_empty_range empties s subjects a.1 b.empty;
      same = ap (λ y. y ∷ map declared_input subjects) a.2 ∙ ap (λ ys. x ∷ ys) b.same;
    }

pub ranges_read : {subjects : Subjects} {inputs : List Input} → AreInputsOf subjects inputs →
    inputs_at subjects ≡ Ok inputs
unfolding inputs_at
ranges_read i =
    let r = ranged (λ at. fault at kinds.NoRange) (λ at. fault at kinds.EmptyRange) i in
    steps _ r.lacking (steps _ r.empty (ap (λ (xs : List Input). Ok xs) r.same))
