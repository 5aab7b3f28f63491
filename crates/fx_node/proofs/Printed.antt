-- What is printed by the units' state words is the page of their runs.
use Rattle.std.proofs.Common.{◌≡◌, ◌≢◌, ◌<◌, ℕ, ℤ, List, [], ◌∷◌, ◌++◌, map, length, get_or, set, Bool, true, false, Some, cond, refl, ap, sym, subst, ◌∙◌, arith}
use Rattle.std.specs.Prelude.{◌==◌, All, filter}
use Rattle.std.specs.List.{concat}
use Rattle.std.proofs.lemmas.List.{get_or-set_same, get_or-set_other, length-set}
use Rattle.std.proofs.lemmas.List.Elements.{All-head, All-tail}
use Rattle.std.proofs.lemmas.Bool.Decides.{nat_tests}
use Rattle.fx_rational.specs.Decimal.{decimal_value}
use Rattle.fx_model.specs.Function.{Run, Step, run_of}
use Rattle.fx_model.specs.Machine.{Program, machine_run, machine_step, start_words}
use Rattle.fx_run.specs.Printed.{given_values}
use Rattle.fx_node.specs.Events.{Event, rows_of}
use Rattle.fx_node.specs.NodePage.{UnitLine, event_line, last_outputs, lines_behind, unit_line}
use Rattle.fx_node.specs.Steps.{line_then, lines_from}
use Rattle.fx_node.proofs.Runs.{first_step}
use Rattle.fx_node.proofs.Apart.{last_of, outputs_more, rows_other, rows_own, same_unit}

-- the run over a unit's rows before came to its state words
pub record HasRun (p : Program) (before : List Event) (zs : List (List ℤ)) (u : ℕ) : Type 0 where
  pub run : Run ℤ
  pub over : machine_run p (given_values (rows_of before u)) ≡ Some run
  pub last : run.last ≡ get_or zs u []

-- and goes on over those to come
pub record GoesOnBehind (p : Program) (es : List Event) (zs : List (List ℤ)) (u : ℕ) : Type 0 where
  pub run : Run ℤ
  pub on : run_of (machine_step p) (given_values (rows_of es u)) (get_or zs u []) ≡ Some run

-- the first row of a unit, where the first event is its own, and where it isn't
first_own : (e : Event) (es : List Event) (u : ℕ) → (e.unit == u) ≡ true → rows_of (e ∷ es) u ≡ e.row ∷ rows_of es u
first_own e es u t =
    ap (λ b. map (λ (e : Event). e.row)
    (cond b (e ∷ filter (λ (e : Event). e.unit == u) es) (filter (λ (e : Event). e.unit == u) es))) t

first_other : (e : Event) (es : List Event) (u : ℕ) → (e.unit == u) ≡ false → rows_of (e ∷ es) u ≡ rows_of es u
first_other e es u t =
    ap (λ b. map (λ (e : Event). e.row)
    (cond b (e ∷ filter (λ (e : Event). e.unit == u) es) (filter (λ (e : Event). e.unit == u) es))) t

is_itself : (n : ℕ) → (n == n) ≡ true
is_itself n = grind (arith, nat_tests)

other_unit : (n u : ℕ) → (n == u) ≡ false → u ≢ n
other_unit n u t = grind (arith, nat_tests)

-- the step of an event's unit
record EventStep (p : Program) (e : Event) (es : List Event) (zs : List (List ℤ)) : Type 0 where
  made : Step ℤ
  later : Run ℤ
  steps : machine_step p (map decimal_value e.row) (get_or zs e.unit []) ≡ Some made
  on : run_of (machine_step p) (given_values (rows_of es e.unit)) made.next ≡ Some later

event_step : (p : Program) (e : Event) (es : List Event) (zs : List (List ℤ)) → GoesOnBehind p (e ∷ es) zs e.unit →
    EventStep p e es zs
event_step p e es zs h =
    let f =
    first_step (machine_step p (map decimal_value e.row) (get_or zs e.unit []))
    (λ s. run_of (machine_step p) (given_values (rows_of es e.unit)) s.next) h.run
    (ap (λ rows. run_of (machine_step p) (given_values rows) (get_or zs e.unit []))
    (sym (first_own e es e.unit (is_itself e.unit))) ∙ h.on) in
    record { made = f.made; later = f.later; steps = f.steps; on = f.goes_on }

module _ (p : Program) (before : List Event) (e : Event) (es : List Event) (zs : List (List ℤ))
    (lt : e.unit < length zs) (s : EventStep p e es zs) where
  next : List (List ℤ)
  next = set zs e.unit s.made.next

  -- the run over the unit's rows and this one
  own_run : (h : HasRun p before zs e.unit) →
      machine_run p (given_values (rows_of before e.unit ++ e.row ∷ []))
      ≡ Some record { outputs = h.run.outputs ++ s.made.outputs ∷ []; last = s.made.next }
  own_run h =
      outputs_more p (rows_of before e.unit) e.row h.run s.made h.over
      (ap (machine_step p (map decimal_value e.row)) h.last ∙ s.steps)

  -- so each unit's run comes to its state words behind the event
  has_run : ((u : ℕ) → u < length zs → HasRun p before zs u) → (u : ℕ) → u < length zs →
      HasRun p (before ++ e ∷ []) next u
  unfolding next
  has_run runs u below = by (e.unit == u) refl
    where
      by : (b : Bool) → (e.unit == u) ≡ b → HasRun p (before ++ e ∷ []) (set zs e.unit s.made.next) u
      by true t =
          let own = same_unit e.unit u t in let h = runs e.unit lt in
          subst (HasRun p (before ++ e ∷ []) (set zs e.unit s.made.next)) own
          record {
            run = record { outputs = h.run.outputs ++ s.made.outputs ∷ []; last = s.made.next };
            over = ap (λ rows. machine_run p (given_values rows)) (rows_own before e e.unit (is_itself e.unit))
                ∙ own_run h;
            last = sym (get_or-set_same zs e.unit s.made.next [] lt);
          }
      by false t =
          let h = runs u below in
          record {
            run = h.run;
            over = ap (λ rows. machine_run p (given_values rows)) (rows_other before e u t) ∙ h.over;
            last = h.last ∙ sym (get_or-set_other zs e.unit u s.made.next [] (other_unit e.unit u t));
          }

  -- and goes on from them
  goes_on : ((u : ℕ) → u < length zs → GoesOnBehind p (e ∷ es) zs u) → (u : ℕ) → u < length zs → GoesOnBehind p es next u
  unfolding next
  goes_on on u below = by (e.unit == u) refl
    where
      by : (b : Bool) → (e.unit == u) ≡ b → GoesOnBehind p es (set zs e.unit s.made.next) u
      by true t =
          subst (GoesOnBehind p es (set zs e.unit s.made.next)) (same_unit e.unit u t)
          record {
            run = s.later;
            on =
                ap (run_of (machine_step p) (given_values (rows_of es e.unit)))
                (get_or-set_same zs e.unit s.made.next [] lt) ∙ s.on;
          }
      by false t =
          let h = on u below in
          record {
            run = h.run;
            on =
                ap (λ rows. run_of (machine_step p) (given_values rows) (get_or (set zs e.unit s.made.next) u []))
                (sym (first_other e es u t))
                ∙ ap (run_of (machine_step p) (given_values (rows_of (e ∷ es) u)))
                (get_or-set_other zs e.unit u s.made.next [] (other_unit e.unit u t))
                ∙ h.on;
          }

  -- the event's line is that of the step
  line_is : HasRun p before zs e.unit → event_line p before e ≡ unit_line p e.unit s.made.outputs
  line_is h =
      ap (λ rows. unit_line p e.unit (last_outputs (machine_run p (given_values rows))))
      (rows_own before e e.unit (is_itself e.unit))
      ∙ ap (unit_line p e.unit)
      (last_of (machine_run p (given_values (rows_of before e.unit ++ e.row ∷ []))) h.run s.made (own_run h))

texts : List UnitLine → List ℕ
texts ls = concat (map (λ (l : UnitLine). l.text) ls)

-- the lines by the units' state words are the lines of their runs
lines_are : (p : Program) (before es : List Event) (zs : List (List ℤ)) → All (λ (e : Event). e.unit < length zs) es →
    ((u : ℕ) → u < length zs → HasRun p before zs u)
    → ((u : ℕ) → u < length zs → GoesOnBehind p es zs u) → lines_from p es zs ≡ texts (lines_behind p before es)
unfolding lines_from texts next
lines_are p before [] zs units runs on = refl
lines_are p before (e ∷ es) zs units runs on =
    let lt = All-head (λ (e : Event). e.unit < length zs) e es units in
    let s = event_step p e es zs (on e.unit lt) in
    let zs' = set zs e.unit s.made.next in
    let many : length zs' ≡ length zs = length-set zs e.unit s.made.next in
    let later =
    lines_are p (before ++ e ∷ []) es zs'
    (subst (λ n. All (λ (e : Event). e.unit < n) es) (sym many)
    (All-tail (λ (e : Event). e.unit < length zs) e es units))
    (λ u below. has_run p before e es zs lt s runs u (rw many at below))
    (λ u below. goes_on p before e es zs lt s on u (rw many at below)) in
    ap (line_then p e.unit (λ s. lines_from p es (set zs e.unit s.next))) s.steps
    ∙ ap (λ t. t ++ lines_from p es zs') (sym (line_is p before e es zs lt s (runs e.unit lt)))
    ∙ ap (λ t. event_line p before e ++ t) later

-- from the start words on
pub lines_from_start : (p : Program) (n : ℕ) (zs : List (List ℤ)) (es : List Event) → length zs ≡ n →
    ((u : ℕ) → u < n → get_or zs u [] ≡ start_words p.codes) → All (λ (e : Event). e.unit < n) es
    → ((u : ℕ) → (run : Run ℤ) × (machine_run p (given_values (rows_of es u)) ≡ Some run)) →
    lines_from p es zs ≡ concat (map (λ (l : UnitLine). l.text) (lines_behind p [] es))
unfolding texts
lines_from_start p n zs es many first units runs =
    lines_are p [] es zs (subst (λ n. All (λ (e : Event). e.unit < n) es) (sym many) units)
    (λ u below. record {
      run = record { outputs = []; last = start_words p.codes };
      over = refl;
      last = sym (first u (rw many at below));
    })
    (λ u below. record {
      run = (runs u).0;
      on = ap (run_of (machine_step p) (given_values (rows_of es u))) (first u (rw many at below)) ∙ (runs u).1;
    })
