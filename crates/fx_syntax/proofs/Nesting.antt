-- The counter of open parentheses in conditions, and conditions that nest.
use Rattle.std.proofs.Common.{◌≡◌, ℕ, zero, suc, ◌<◌, ◌≤◌, ◌+◌, ◌-◌, true, false, eqb, List, [], ◌∷◌, length, Result, Ok, refl, sym, ap, subst, ◌∙◌, arith, rules, tests}
use Rattle.std.specs.Prelude.{not}
use Rattle.std.proofs.lemmas.List.{length-set}
use Rattle.fx_rational.specs.Decimal.{Decimal}
use Rattle.fx_grammar.specs.declared.aspect.Aspect.{Aspect}
use Rattle.fx_model.specs.Function.{Input}
use Rattle.fx_lexer.specs.declared.fault.SourceFault.{SourceFault}
use Rattle.fx_lexer.specs.Tokens.{Lexeme}
use Rattle.fx_grammar.specs.declared.head.Head.TheVariants as heads
use Rattle.fx_grammar.specs.Heads.{head_of, ◌==ₕ◌}
use Rattle.fx_model.specs.Steps.{◌>>=◌}
use Rattle.fx_grammar.specs.Steps.{Tokens, repeat}
use Rattle.fx_grammar.specs.Ranges.{Subjects, condition_at, Conditions, are_open, wanted_at, read_at, conditions_step, conditions_at, require_at, with_aspect, subject_or}
use Rattle.fx_syntax.specs.Leaves.{IsNext}
use Rattle.fx_syntax.specs.Conditions.{IsSaid, IsSimple, number_first, name_first, error_of, IsConditions, last, both, IsCondition, nested, simple, AreInputsOf, none, one_more, IsRequire}
use Rattle.fx_model.proofs.Steps.{on_ok}
use Rattle.fx_syntax.proofs.Outcomes.{OnOk, done, failed, and_then, choose, steps, on_true, on_false}
use Rattle.fx_syntax.proofs.Marks.{mark, same_head, next_shorter, want_spells, want_reads}
use Rattle.fx_syntax.proofs.Repeats.{when_true}
use Rattle.fx_syntax.proofs.Conditions.{condition_spells, simple_step, simple_reads, IsPlainStep, ranges_spell, ranges_read}

-- behind an open parenthesis or an &&, and behind a condition, in so many parentheses
abbrev wanting : ℕ → Subjects → Conditions
wanting d s = record { depth = d; wants = true; subjects = s }

abbrev having : ℕ → Subjects → Conditions
having d s = record { depth = d; wants = false; subjects = s }

abbrev Loop : Type 0
Loop = Result (Conditions × Tokens) SourceFault

abbrev loop : ℕ → ℕ → Conditions → Tokens → Loop
loop end n c ts = repeat are_open (conditions_step end) n c ts

is_open : (d : ℕ) → not (eqb (suc d) 0) ≡ true
is_open d = search (rules, tests, arith)

unroll : (end n d : ℕ) (c : Conditions) (ts : Tokens) → c.depth ≡ suc d →
    loop end (suc n) c ts ≡ (conditions_step end c ts >>= λ x. loop end n x.0 x.1)
unfolding repeat
unroll end n d c ts e = when_true _ _ (ap (λ k. not (eqb k 0)) e ∙ is_open d)

-- ---- what one step reads

-- behind an open parenthesis or an &&: another parenthesis, or a condition
pub data IsWantedNesting (d : ℕ) (s : Subjects) (ts : Tokens) : Conditions → Tokens → Type 0 where
  opens : {t : Lexeme} {us : Tokens} → IsNext heads.Open ts t us → IsWantedNesting d s ts (wanting (d + 1) s) us
  says : {after : Subjects} {rest : Tokens} → IsSimple s ts after rest → IsWantedNesting d s ts (having d after) rest

wanted_spells : (end d : ℕ) (s : Subjects) (ts : Tokens) →
    OnOk (λ x. IsWantedNesting d s ts x.0 x.1) (conditions_step end (wanting d s) ts)
unfolding conditions_step
wanted_spells end d s [] = failed
wanted_spells end d s (t ∷ ts) = choose (head_of t ==ₕ heads.Open)
    (λ e. done (opens (record { tokens = refl; is = same_head _ _ e })))
    (λ e. and_then (condition_spells end s (t ∷ ts)) (λ x i. done (says i)))

-- behind a condition: a parenthesis that closes, or an &&
pub data IsReadNesting (d : ℕ) (s : Subjects) (ts : Tokens) : Conditions → Tokens → Type 0 where
  closes : {t : Lexeme} {us : Tokens} → IsNext heads.Close ts t us → IsReadNesting d s ts (having (d - 1) s) us
  joins : {t : Lexeme} {us : Tokens} → IsNext heads.And ts t us → IsReadNesting d s ts (wanting d s) us

read_spells : (end d : ℕ) (s : Subjects) (ts : Tokens) →
    OnOk (λ x. IsReadNesting d s ts x.0 x.1) (conditions_step end (having d s) ts)
unfolding conditions_step
read_spells end d s [] = failed
read_spells end d s (t ∷ ts) = choose (head_of t ==ₕ heads.Close)
    (λ e. done (closes (record { tokens = refl; is = same_head _ _ e })))
    (λ e. choose (head_of t ==ₕ heads.And) (λ f. done (joins (record { tokens = refl; is = same_head _ _ f })))
    (λ f. failed))

wanted_shorter : (d : ℕ) (s : Subjects) (ts : Tokens) (c : Conditions) (us : Tokens) → IsWantedNesting d s ts c us →
    length us < length ts
wanted_shorter d s ts c us (opens n) = next_shorter n
wanted_shorter d s ts c us (says i) = (simple_step s ts _ us i).shorter

-- ---- from the counter to nesting

-- conditions and the parenthesis that closes them were read; the loop goes on behind it with fewer turns
record IsClosed (end d : ℕ) (s : Subjects) (ts : Tokens) (n : ℕ) (y : Conditions × Tokens) : Type 0 where
  after : Subjects
  behind : Tokens
  rest : Tokens
  close : Lexeme
  turns : ℕ
  are : IsConditions s ts after behind
  next : IsNext heads.Close behind close rest
  fewer : turns ≤ n
  enough : length rest < turns
  same : loop end turns (having d after) rest ≡ Ok y

-- so with at most k turns, from a condition that is due, after its first step, and from behind one
record Closes (end k : ℕ) : Type 0 where
  due : (n d : ℕ) (s : Subjects) (ts : Tokens) (x y : Conditions × Tokens) → n ≤ k → IsWantedNesting (suc d) s ts x.0 x.1 →
      loop end n x.0 x.1 ≡ Ok y → length x.1 < n → IsClosed end d s ts n y
  met : (n d : ℕ) (s between : Subjects) (ts us : Tokens) (y : Conditions × Tokens) → n ≤ k →
      IsCondition s ts between us → loop end n (having (suc d) between) us ≡ Ok y → length us < n →
      IsClosed end d s ts n y

-- one turn
turn : {P : Type 0} (end n d : ℕ) (c : Conditions) (ts : Tokens) (y : Conditions × Tokens) → c.depth ≡ suc d →
    loop end (suc n) c ts ≡ Ok y
    → ((x : Conditions × Tokens) → conditions_step end c ts ≡ Ok x → loop end n x.0 x.1 ≡ Ok y → P) → P
turn end n d c ts y depth e k =
    on_ok (conditions_step end c ts) (λ x. loop end n x.0 x.1) y (sym (unroll end n d c ts depth) ∙ e) k

module _ (end k : ℕ) (more : Closes end k) where
  -- a further parenthesis opened: what it encloses, and then what stands behind it
  opened : (n d : ℕ) (s : Subjects) (ts us : Tokens) (t : Lexeme) (y : Conditions × Tokens) → n ≤ suc k →
      IsNext heads.Open ts t us → loop end n (wanting (suc d + 1) s) us ≡ Ok y → length us < n → IsClosed end d s ts n y
  opened zero d s ts us t y le o e lt = absurd (omega arith)
  opened (suc n) d s ts us t y le o e lt =
      turn end n (suc d) (wanting (suc d + 1) s) us y (omega arith) e (λ x step go.
      let w : IsWantedNesting (suc (suc d)) s us x.0 x.1 =
      (wanted_spells end (suc (suc d)) s us).at x
      (ap (λ e'. conditions_step end (wanting e' s) us) (let q : suc (suc d) ≡ suc d + 1 = omega arith in q)
      ∙ step) in
      let less = wanted_shorter (suc (suc d)) s us x.0 x.1 w in
      let inside = more.due n (suc d) s us x y (omega arith) w go (omega arith) in
      let fewer = inside.fewer in
      let behind =
      more.met inside.turns d s inside.after ts inside.rest y (omega arith)
      (nested {after = inside.after} {vs = inside.behind} {rest = inside.rest} (mark o) inside.are
      (record { token = inside.close; next = inside.next })) inside.same inside.enough in
      let fewer' = behind.fewer in
      record {
        after = behind.after;
        behind = behind.behind;
        rest = behind.rest;
        close = behind.close;
        turns = behind.turns;
        are = behind.are;
        next = behind.next;
        fewer = omega arith;
        enough = behind.enough;
        same = behind.same;
      })

  met_more : (n d : ℕ) (s between : Subjects) (ts us : Tokens) (y : Conditions × Tokens) → n ≤ suc k →
      IsCondition s ts between us → loop end n (having (suc d) between) us ≡ Ok y → length us < n →
      IsClosed end d s ts n y
  met_more zero d s between ts us y le i e lt = absurd (omega arith)
  met_more (suc n) d s between ts us y le i e lt =
      turn end n d (having (suc d) between) us y refl e
      (λ x step go. by x go ((read_spells end (suc d) between us).at x step))
    where
      by : (x : Conditions × Tokens) → loop end n x.0 x.1 ≡ Ok y → IsReadNesting (suc d) between us x.0 x.1 →
          IsClosed end d s ts (suc n) y
      by x go r = at x.0 x.1 go r
        where
          joined : (m : ℕ) (t : Lexeme) (vs : Tokens) → m ≤ n → IsNext heads.And us t vs →
              loop end m (wanting (suc d) between) vs ≡ Ok y → length vs < m → IsClosed end d s ts (suc n) y
          joined zero t vs le' a go lt' = absurd (omega arith)
          joined (suc m) t vs le' a go lt' =
              turn end m d (wanting (suc d) between) vs y refl go (λ x step go.
              let w = (wanted_spells end (suc d) between vs).at x step in
              let less = wanted_shorter (suc d) between vs x.0 x.1 w in
              let others = more.due m d between vs x y (omega arith) w go (omega arith) in
              let fewer = others.fewer in
              record {
                after = others.after;
                behind = others.behind;
                rest = others.rest;
                close = others.close;
                turns = others.turns;
                are = both i (mark a) others.are;
                next = others.next;
                fewer = omega arith;
                enough = others.enough;
                same = others.same;
              })

          at : (c : Conditions) (vs : Tokens) → loop end n c vs ≡ Ok y → IsReadNesting (suc d) between us c vs →
              IsClosed end d s ts (suc n) y
          at c vs go (closes {t = t} {us = vs'} close) =
              let less = next_shorter close in
              let same : suc d - 1 ≡ d = omega arith in
              record {
                after = between;
                behind = us;
                rest = vs;
                close = t;
                turns = n;
                are = last i;
                next = close;
                fewer = omega arith;
                enough = omega arith;
                same = subst (λ e'. loop end n (having e' between) vs ≡ Ok y) same go;
              }
          at c vs go (joins {t = t} {us = vs'} a) =
              let less = next_shorter a in joined n t vs (omega arith) a go (omega arith)

  due_more : (n d : ℕ) (s : Subjects) (ts : Tokens) (c : Conditions) (us : Tokens) (y : Conditions × Tokens) →
      n ≤ suc k → IsWantedNesting (suc d) s ts c us → loop end n c us ≡ Ok y → length us < n → IsClosed end d s ts n y
  due_more n d s ts c us y le (opens o) e lt = opened n d s ts us _ y le o e lt
  due_more n d s ts c us y le (says {after = after} i) e lt = met_more n d s after ts us y le (simple i) e lt

closes_all : (end k : ℕ) → Closes end k
closes_all end zero = record {
  due = λ n d s ts x y le w e lt. absurd (omega arith);
  met = λ n d s between ts us y le i e lt. absurd (omega arith);
}
closes_all end (suc k) = record {
  due = λ n d s ts x y le w e lt. due_more end k (closes_all end k) n d s ts x.0 x.1 y le w e lt;
  met = met_more end k (closes_all end k);
}

-- conditions and the parenthesis that closes them
record AreConditions (s : Subjects) (ts : Tokens) (c : Conditions) (rest : Tokens) : Type 0 where
  behind : Tokens
  close : Lexeme
  are : IsConditions s ts c.subjects behind
  next : IsNext heads.Close behind close rest

over : (end n : ℕ) (s : Subjects) (ts : Tokens) (y : Conditions × Tokens) → loop end n (having 0 s) ts ≡ Ok y →
    y ≡ (having 0 s, ts)
unfolding repeat
over end zero s ts y e = cc
over end (suc n) s ts y e = cc

conditions_spell : (end : ℕ) (s : Subjects) (ts : Tokens) →
    OnOk (λ x. AreConditions s ts x.0 x.1) (conditions_at end (wanting 1 s) ts)
unfolding conditions_at
conditions_spell end s ts =
    and_then (wanted_spells end 1 s ts) (λ x w. record {
      at = λ y e.
          let n = suc (length x.1) in
          let c = (closes_all end n).due n 0 s ts x y (omega arith) w e (omega arith) in
          subst (λ (y : Conditions × Tokens). AreConditions s ts y.0 y.1)
          (sym (over end c.turns c.after c.rest y c.same)) (record {
            behind = c.behind;
            close = c.close;
            are = c.are;
            next = c.next;
          });
    })

pub require_spells : (end : ℕ) (s : Subjects) (ts : Tokens) → OnOk (λ x. IsRequire s ts x.0 x.1) (require_at end s ts)
unfolding require_at
require_spells end s ts =
    and_then (want_spells end heads.Open ts) (λ o n.
    and_then (conditions_spell end s o.1) (λ x c.
    and_then (ranges_spell x.0.subjects) (λ inputs ranges.
    done (record {
      conditions = o.1;
      behind = c.behind;
      after = x.0.subjects;
      opening = mark n;
      conditions_are = c.are;
      close = mark c.next;
      ranges = ranges;
    }))))

-- ---- from nesting to the counter

-- from a condition that is due, the loop comes with fewer turns to what stands behind it
record Reaches (end d : ℕ) (s : Subjects) (ts : Tokens) (after : Subjects) (rest : Tokens) : Type 0 where
  first : Conditions × Tokens
  step : conditions_step end (wanting (suc d) s) ts ≡ Ok first
  shorter : length first.1 < length ts
  on : (n : ℕ) → length first.1 < n → (m : ℕ) × (length rest < m) ×
      (loop end n first.0 first.1 ≡ loop end m (having (suc d) after) rest)

simple_step_is : (end d : ℕ) (s : Subjects) (ts : Tokens) (after : Subjects) (rest : Tokens) →
    condition_at end s ts ≡ Ok (after, rest) → IsPlainStep ts rest →
    conditions_step end (wanting d s) ts ≡ Ok (having d after, rest)
unfolding conditions_step
simple_step_is end d s [] after rest e p = absurd (let lt = p.shorter in omega arith)
simple_step_is end d s (t ∷ ts) after rest e p = on_false _ p.head (steps _ e refl)

simple_reaches : (end d : ℕ) (s : Subjects) (ts : Tokens) (after : Subjects) (rest : Tokens) →
    condition_at end s ts ≡ Ok (after, rest) → IsPlainStep ts rest → Reaches end d s ts after rest
simple_reaches end d s ts after rest e p = record {
  first = (having (suc d) after, rest);
  step = simple_step_is end (suc d) s ts after rest e p;
  shorter = p.shorter;
  on = λ n lt. (n, lt, refl);
}

open_step : (end d : ℕ) (s : Subjects) (ts : Tokens) (t : Lexeme) (us : Tokens) → IsNext heads.Open ts t us →
    conditions_step end (wanting d s) ts ≡ Ok (wanting (d + 1) s, us)
unfolding conditions_step
open_step end d s ts t us n =
    ap (wanted_at end (wanting d s)) n.tokens ∙ on_true _ (ap (λ h. h ==ₕ heads.Open) n.is) refl

close_step : (end d : ℕ) (s : Subjects) (ts : Tokens) (t : Lexeme) (us : Tokens) → IsNext heads.Close ts t us →
    conditions_step end (having d s) ts ≡ Ok (having (d - 1) s, us)
unfolding conditions_step
close_step end d s ts t us n =
    ap (read_at end (having d s)) n.tokens ∙ on_true _ (ap (λ h. h ==ₕ heads.Close) n.is) refl

and_step : (end d : ℕ) (s : Subjects) (ts : Tokens) (t : Lexeme) (us : Tokens) → IsNext heads.And ts t us →
    conditions_step end (having d s) ts ≡ Ok (wanting d s, us)
unfolding conditions_step
and_step end d s ts t us n = ap (read_at end (having d s)) n.tokens
    ∙ on_false _ (ap (λ h. h ==ₕ heads.Close) n.is) (on_true _ (ap (λ h. h ==ₕ heads.And) n.is) refl)

-- the loop takes one such step
takes : (end n d : ℕ) (c : Conditions) (ts : Tokens) (x : Conditions × Tokens) → c.depth ≡ suc d →
    conditions_step end c ts ≡ Ok x → loop end (suc n) c ts ≡ loop end n x.0 x.1
takes end n d c ts x depth e = unroll end n d c ts depth ∙ steps (λ x. loop end n x.0 x.1) e refl

-- from where a condition is due, in so many turns
module _ (end d : ℕ) (s : Subjects) (ts : Tokens) (after : Subjects) (rest : Tokens)
    (r : Reaches end d s ts after rest) where
  from_due : (n : ℕ) → length ts < n → (m : ℕ) × (length rest < m) ×
      (loop end n (wanting (suc d) s) ts ≡ loop end m (having (suc d) after) rest)
  from_due zero lt = absurd (omega arith)
  from_due (suc n) lt =
      let less = r.shorter in
      let o = r.on n (omega arith) in
      (o.0, o.1, takes end n d (wanting (suc d) s) ts r.first refl r.step ∙ o.2)

nested_reaches : (end d : ℕ) (s : Subjects) (ts us vs : Tokens) (t u : Lexeme) (after : Subjects) (rest : Tokens) →
    IsNext heads.Open ts t us → Reaches end (suc d) s us after vs → IsNext heads.Close vs u rest →
    Reaches end d s ts after rest
nested_reaches end d s ts us vs t u after rest o r c = record {
  first = (wanting (suc (suc d)) s, us);
  step =
      let same : suc d + 1 ≡ suc (suc d) = omega arith in
      open_step end (suc d) s ts t us o ∙ ap (λ (e : ℕ). Ok (wanting e s, us)) same;
  shorter = next_shorter o;
  on = λ n lt. let f = from_due end (suc d) s us after vs r n lt in by n f.0 f.1 f.2;
}
  where
    by : (n m : ℕ) → length vs < m →
        loop end n (wanting (suc (suc d)) s) us ≡ loop end m (having (suc (suc d)) after) vs →
        (k : ℕ) × (length rest < k) × (loop end n (wanting (suc (suc d)) s) us ≡ loop end k (having (suc d) after) rest)
    by n zero lt e = absurd (omega arith)
    by n (suc m) lt e =
        let less = next_shorter c in
        let same : suc (suc d) - 1 ≡ suc d = omega arith in (
          m,
          omega arith,
          e ∙ takes end m (suc d) (having (suc (suc d)) after) vs (
            having (suc (suc d) - 1) after,
            rest,
          ) refl (close_step end (suc (suc d)) after vs u rest c)
              ∙ ap (λ k. loop end m (having k after) rest) same,
        )

both_reaches : (end d : ℕ) (s between after : Subjects) (ts us vs rest : Tokens) (t : Lexeme) →
    Reaches end d s ts between us → IsNext heads.And us t vs → Reaches end d between vs after rest →
    Reaches end d s ts after rest
both_reaches end d s between after ts us vs rest t r a q = record {
  first = r.first;
  step = r.step;
  shorter = r.shorter;
  on = λ n lt. let f = r.on n lt in by n f.0 f.1 f.2;
}
  where
    by : (n m : ℕ) → length us < m → loop end n r.first.0 r.first.1 ≡ loop end m (having (suc d) between) us →
        (k : ℕ) × (length rest < k) × (loop end n r.first.0 r.first.1 ≡ loop end k (having (suc d) after) rest)
    by n zero lt e = absurd (omega arith)
    by n (suc m) lt e =
        let less = next_shorter a in
        let f = from_due end d between vs after rest q m (omega arith) in (
          f.0,
          f.1,
          e ∙ takes end m d (having (suc d) between) us (
            wanting (suc d) between,
            vs,
          ) refl (and_step end (suc d) between us t vs a) ∙ f.2,
        )

mutual
  conditions_reach : {s : Subjects} {ts : Tokens} {after : Subjects} {rest : Tokens} → IsConditions s ts after rest →
      (end d : ℕ) → Reaches end d s ts after rest
  conditions_reach (last i) end d = condition_reaches i end d
  conditions_reach (both {s = s} {between = b} {after = after} {ts = ts} {us = us} {vs = vs} {rest = rest} i a others)
      end d =
      both_reaches end d s b after ts us vs rest a.token (condition_reaches i end d) a.next
      (conditions_reach others end d)

  condition_reaches : {s : Subjects} {ts : Tokens} {after : Subjects} {rest : Tokens} → IsCondition s ts after rest →
      (end d : ℕ) → Reaches end d s ts after rest
  condition_reaches (nested {s = s} {after = after} {ts = ts} {us = us} {vs = vs} {rest = rest} o i c) end d =
      nested_reaches end d s ts us vs o.token c.token after rest o.next (conditions_reach i end (suc d)) c.next
  condition_reaches (simple {s = s} {after = after} {ts = ts} {rest = rest} i) end d =
      simple_reaches end d s ts after rest (simple_reads end s ts after rest i) (simple_step s ts after rest i)

stops : (end n : ℕ) (s : Subjects) (ts : Tokens) → loop end n (having 0 s) ts ≡ Ok (having 0 s, ts)
unfolding repeat
stops end zero s ts = refl
stops end (suc n) s ts = refl

conditions_read : (end : ℕ) {s : Subjects} {ts : Tokens} {after : Subjects} {us : Tokens} {t : Lexeme} {rest : Tokens} →
    IsConditions s ts after us → IsNext heads.Close us t rest
    → conditions_at end (wanting 1 s) ts ≡ Ok (having 0 after, rest)
unfolding conditions_at
conditions_read end {s} {ts} {after} {us} {t} {rest} i c =
    let r = conditions_reach i end 0 in
    let f = r.on (suc (length r.first.1)) (omega arith) in
    steps _ r.step (f.2 ∙ by f.0 f.1)
  where
    by : (m : ℕ) → length us < m → loop end m (having 1 after) us ≡ Ok (having 0 after, rest)
    by zero lt = absurd (omega arith)
    by (suc m) lt = takes end m 0 (having 1 after) us (having 0 after, rest) refl (close_step end 1 after us t rest c)
        ∙ stops end m after rest

pub require_reads : (end : ℕ) {s : Subjects} {ts : Tokens} {inputs : List Input} {rest : Tokens} →
    IsRequire s ts inputs rest → require_at end s ts ≡ Ok (inputs, rest)
unfolding require_at
require_reads end i =
    steps _ (want_reads end i.opening.next) (
    steps _ (conditions_read end i.conditions_are i.close.next) (
    steps _ (ranges_read i.ranges) refl))

-- ---- lengths

mutual
  conditions_shorter : {s : Subjects} {ts : Tokens} {after : Subjects} {rest : Tokens} → IsConditions s ts after rest →
      length rest < length ts
  conditions_shorter (last i) = condition_shorter i
  conditions_shorter (both i a others) =
      let x = condition_shorter i in let y = next_shorter a.next in let z = conditions_shorter others in omega arith

  condition_shorter : {s : Subjects} {ts : Tokens} {after : Subjects} {rest : Tokens} → IsCondition s ts after rest →
      length rest < length ts
  condition_shorter (nested o i c) =
      let x = next_shorter o.next in let y = conditions_shorter i in let z = next_shorter c.next in omega arith
  condition_shorter (simple i) = (simple_step _ _ _ _ i).shorter

pub require_shorter : {s : Subjects} {ts : Tokens} {inputs : List Input} {rest : Tokens} → IsRequire s ts inputs rest →
    length rest < length ts
require_shorter i =
    let x = next_shorter i.opening.next in
    let y = conditions_shorter i.conditions_are in
    let z = next_shorter i.close.next in
    omega arith

said_count : {aspect : Aspect} {d : Decimal} {t : Lexeme} {before after : Subjects} → IsSaid aspect d t before after →
    length after ≡ length before
said_count {aspect = aspect} {d = d} {before = before} i =
    ap length i.value ∙ length-set before i.place (with_aspect aspect d (subject_or before i.place))

simple_count : {s : Subjects} {ts : Tokens} {after : Subjects} {rest : Tokens} → IsSimple s ts after rest →
    length after ≡ length s
simple_count (number_first i) = said_count i.said
simple_count (name_first i) = said_count i.said
simple_count (error_of i) = said_count i.said

-- there are as many subjects as before
mutual
  conditions_count : {s : Subjects} {ts : Tokens} {after : Subjects} {rest : Tokens} → IsConditions s ts after rest →
      length after ≡ length s
  conditions_count (last i) = condition_count i
  conditions_count (both i a others) = conditions_count others ∙ condition_count i

  condition_count : {s : Subjects} {ts : Tokens} {after : Subjects} {rest : Tokens} → IsCondition s ts after rest →
      length after ≡ length s
  condition_count (nested o i c) = conditions_count i
  condition_count (simple i) = simple_count i

inputs_count : {subjects : Subjects} {inputs : List Input} → AreInputsOf subjects inputs →
    length inputs ≡ length subjects
inputs_count none = refl
inputs_count (one_more i others) = ap suc (inputs_count others)

pub require_count : {s : Subjects} {ts : Tokens} {inputs : List Input} {rest : Tokens} → IsRequire s ts inputs rest →
    length inputs ≡ length s
require_count i = inputs_count i.ranges ∙ conditions_count i.conditions_are
