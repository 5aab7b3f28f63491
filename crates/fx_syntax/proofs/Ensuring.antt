-- The demands of outputs, behind their names.
use Rattle.std.proofs.Common.{◌≡◌, ℕ, ◌<◌, ◌≤◌, true, false, eqb, List, [], length, drop, replicate, Ok, refl, sym, ap, subst, ◌∙◌, arith, rules, tests}
use Rattle.fx_model.specs.Function.{Demand}
use Rattle.fx_grammar.specs.declared.head.Head.TheVariants as heads
use Rattle.fx_grammar.specs.Heads.{◌==ₕ◌}
use Rattle.fx_grammar.specs.Steps.{Tokens, next_head, has_name, listed as listed_by}
use Rattle.fx_grammar.specs.Ranges.{Subjects, names_of, condition_at}
use Rattle.fx_grammar.specs.Ensuring.{output_at, of_arity, outputs_at, ensuring_at, unsaid, maybe_ensuring_at}
use Rattle.fx_syntax.specs.Conditions.{IsSimple}
use Rattle.fx_syntax.specs.Ensuring.{IsOutput, IsOutputs, one, several, AreDemandsOf, IsEnsuring, IsMaybeEnsuring, left_out, written}
use Rattle.fx_syntax.proofs.Outcomes.{OnOk, done, failed, and_then, choose, weaken, steps, on_true, on_false}
use Rattle.fx_syntax.proofs.Marks.{mark, same_head, next_is, is_next, not_next, behind_is, next_shorter, want_spells, want_reads}
use Rattle.fx_syntax.proofs.Repeats.{itself, as_seen, from_seen, Any, keeps_any, SpellsEach, separated_spells, separated_reads, listed_spells, listed_reads, separated_shorter, listed_shorter}
use Rattle.fx_syntax.proofs.Conditions.{condition_spells, simple_reads, simple_step}
use Rattle.fx_syntax.proofs.Demands.{all_free, free_demands}

demand_spells : (end : ℕ) → SpellsEach itself Any IsSimple (condition_at end)
demand_spells end s any ts = as_seen (condition_spells end s ts)

output_spells : (end : ℕ) → SpellsEach itself Any IsOutput (output_at end)
unfolding output_at
output_spells end s any ts = as_seen (
    and_then (want_spells end heads.Name ts) (λ t n.
    choose (has_name (names_of s) t.0.text) (λ e. failed)
    (λ e. done (record { name = t.0; next = n; fresh = e; value = refl }))))

output_reads : (end : ℕ) (s : Subjects) (ts : Tokens) (after : Subjects) (rest : Tokens) → IsOutput s ts after rest →
    output_at end s ts ≡ Ok (after, rest)
unfolding output_at
output_reads end s ts after rest i =
    steps _ (want_reads end i.next) (on_false _ i.fresh (ap (λ (s : Subjects). Ok (s, rest)) (sym i.value)))

counted_spells : (count : ℕ) {P : Subjects × Tokens → Type 0} (x : Subjects × Tokens) → P x →
    OnOk (λ y. (length y.0 ≡ count) × P y) (of_arity count x)
counted_spells count {P} x p =
    choose (eqb (length x.0) count) (λ e. let same : length x.0 ≡ count = search (rules, tests) in
    done (same, p)) (λ e. failed)

counted_reads : (count : ℕ) (s : Subjects) (us : Tokens) → length s ≡ count → of_arity count (s, us) ≡ Ok (s, us)
counted_reads count s us same = let e : eqb (length s) count ≡ true = search (rules, tests) in on_true _ e refl

outputs_spell : (end count : ℕ) (ts : Tokens) →
    OnOk (λ y. (length y.0 ≡ count) × IsOutputs ts y.0 y.1) (outputs_at end count ts)
unfolding outputs_at
outputs_spell end count ts = choose (next_head ts ==ₕ heads.Open)
    (λ e. let t = next_is ts heads.Open (same_head _ _ e) refl in
    and_then (from_seen (listed_spells itself Any IsOutput (output_at end) (output_spells end)
    (keeps_any IsOutput) end [] (tt {0}) (drop 1 ts)))
    (λ x i. counted_spells count {P = λ y. IsOutputs ts y.0 y.1} x (several (mark t.1) i)))
    (λ e. and_then (from_seen (output_spells end [] (tt {0}) ts))
    (λ x i. counted_spells count {P = λ y. IsOutputs ts y.0 y.1} x (one i)))

outputs_read : (end count : ℕ) {ts : Tokens} {outputs : Subjects} {rest : Tokens} → IsOutputs ts outputs rest →
    length outputs ≡ count → outputs_at end count ts ≡ Ok (outputs, rest)
unfolding outputs_at
outputs_read end count {ts} (one {rest = rest} {outputs = outputs} i) same =
    on_false _ (not_next i.next heads.Open refl)
    (steps _ (output_reads end [] ts outputs rest i) (counted_reads count outputs rest same))
outputs_read end count {ts} (several {rest = rest} {outputs = outputs} o i) same =
    on_true _ (is_next o.next) (steps _
    (ap (λ us. listed_by (output_at end) end [] us) (behind_is o.next)
    ∙ listed_reads itself IsOutput (output_at end) (λ ts. Unit {0})
    (λ s ts after rest i fits. output_reads end s ts after rest i) (λ s ts after rest i. next_shorter i.next) end
    (λ ts t us n. tt {0}) (λ ts t us n. tt {0}) i)
    (counted_reads count outputs rest same))

-- what was said of the outputs can be demanded so
abbrev pub IsSaid : ℕ → Tokens → Subjects → Tokens → Type 0
IsSaid count ts subjects rest =
    (demands : List Demand) → AreDemandsOf subjects demands → IsMaybeEnsuring count ts demands rest

ensuring_spells : (end count : ℕ) (ts : Tokens) →
    OnOk (λ x. (demands : List Demand) → AreDemandsOf x.0 demands → IsEnsuring count ts demands x.1)
    (ensuring_at end count ts)
unfolding ensuring_at
ensuring_spells end count ts =
    and_then (want_spells end heads.Open ts) (λ o n.
    and_then (outputs_spell end count o.1) (λ names outputs.
    and_then (want_spells end heads.Arrow names.1) (λ a arrow.
    and_then (from_seen (separated_spells itself Any IsSimple (condition_at end) (demand_spells end)
    (keeps_any IsSimple) heads.And refl names.0 (tt {0}) a.1)) (λ s demanded.
    and_then (want_spells end heads.Close s.1) (λ c close.
    done (λ ds demands. record {
      outputs = names.0;
      demanded = s.0;
      names = o.1;
      arrows = names.1;
      bounds = a.1;
      behind = s.1;
      opening = mark n;
      outputs_are = outputs.1;
      arrow = mark arrow;
      demanded_are = demanded;
      close = mark close;
      as_many = outputs.0;
      demands_are = demands;
    }))))))

ensuring_reads : (end count : ℕ) (ts : Tokens) (demands : List Demand) (rest : Tokens)
    (i : IsEnsuring count ts demands rest) → ensuring_at end count ts ≡ Ok (i.demanded, rest)
unfolding ensuring_at
ensuring_reads end count ts demands rest i =
    steps _ (want_reads end i.opening.next) (
    steps _ (outputs_read end count i.outputs_are i.as_many) (
    steps _ (want_reads end i.arrow.next) (
    steps _ (separated_reads itself IsSimple (condition_at end) (λ ts. Unit {0})
    (λ s ts after rest i fits. simple_reads end s ts after rest i)
    (λ s ts after rest i. (simple_step s ts after rest i).shorter)
    heads.And (λ ts t us n. tt {0}) i.demanded_are (tt {0}) (not_next i.close.next heads.And refl)) (
    steps _ (want_reads end i.close.next) refl))))

pub maybe_ensuring_spells : (end count : ℕ) (ts : Tokens) →
    OnOk (λ x. IsSaid count ts x.0 x.1) (maybe_ensuring_at end count ts)
unfolding maybe_ensuring_at
maybe_ensuring_spells end count ts = choose (next_head ts ==ₕ heads.Ensuring)
    (λ e. let t = next_is ts heads.Ensuring (same_head _ _ e) refl in
    weaken (λ x said ds demands. written (mark t.1) (said ds demands)) (ensuring_spells end count (drop 1 ts)))
    (λ e. done (λ ds demands. subst (λ ds. IsMaybeEnsuring count ts ds ts) (sym (all_free count demands)) left_out))

-- what is said of the outputs, as it is read
pub record AreSaid (end count : ℕ) (ts : Tokens) (demands : List Demand) (rest : Tokens) : Type 0 where
  pub subjects : Subjects
  pub read : maybe_ensuring_at end count ts ≡ Ok (subjects, rest)
  pub demands_are : AreDemandsOf subjects demands

pub maybe_ensuring_reads : (end count : ℕ) {ts : Tokens} {demands : List Demand} {rest : Tokens} →
    IsMaybeEnsuring count ts demands rest → (next_head rest ==ₕ heads.Ensuring) ≡ false
    → AreSaid end count ts demands rest
unfolding maybe_ensuring_at
maybe_ensuring_reads end count left_out off =
    record { subjects = replicate count unsaid; read = on_false _ off refl; demands_are = free_demands count }
maybe_ensuring_reads end count (written {us = us} {rest = rest} {demands = demands} n i) off = record {
  subjects = i.demanded;
  read = on_true _ (is_next n.next) (ap (ensuring_at end count) (behind_is n.next)
      ∙ ensuring_reads end count us demands rest i);
  demands_are = i.demands_are;
}

output_shorter : (s : Subjects) (ts : Tokens) (after : Subjects) (rest : Tokens) → IsOutput s ts after rest →
    length rest < length ts
output_shorter s ts after rest i = next_shorter i.next

outputs_shorter : {ts : Tokens} {outputs : Subjects} {rest : Tokens} → IsOutputs ts outputs rest →
    length rest < length ts
outputs_shorter (one i) = next_shorter i.next
outputs_shorter (several o i) =
    let a = next_shorter o.next in let b = listed_shorter IsOutput output_shorter i in omega arith

pub maybe_ensuring_shorter : (count : ℕ) {ts : Tokens} {demands : List Demand} {rest : Tokens} →
    IsMaybeEnsuring count ts demands rest → length rest ≤ length ts
maybe_ensuring_shorter count left_out = omega arith
maybe_ensuring_shorter count (written n i) =
    let a = next_shorter n.next in let b = next_shorter i.opening.next in let c = outputs_shorter i.outputs_are in
    let d = next_shorter i.arrow.next in
    let e =
    separated_shorter heads.And IsSimple
    (λ s ts after rest i. (simple_step s ts after rest i).shorter) i.demanded_are in
    let f = next_shorter i.close.next in
    omega arith
