-- The front of a function, read and spelled.
use Rattle.std.proofs.Common.{◌≡◌, ◌≢◌, ℕ, ◌<◌, ◌≤◌, ◌+◌, false, eqb, List, [], ◌∷◌, ◌++◌, length, drop, Ok, refl, sym, ap, subst, ◌∙◌, arith, rules, tests, length-append, append_assoc, map}
use Rattle.std.specs.Prelude.{nat_lt, nat_le}
use Rattle.std.proofs.lemmas.List.{append-nil}
use Rattle.fx_model.specs.Function.{State}
use Rattle.fx_rational.specs.Decimal.{decimal_value}
use Rattle.fx_lexer.specs.Tokens.{Lexeme}
use Rattle.fx_grammar.specs.declared.head.Head.TheVariants as heads
use Rattle.fx_grammar.specs.Heads.{◌==ₕ◌}
use Rattle.fx_grammar.specs.Steps.{Text, Tokens, next_head, next_place, free_at, has_name, listed as listed_by}
use Rattle.fx_grammar.specs.Ranges.{Subjects, new_subject, names_of}
use Rattle.fx_grammar.specs.Fronts.{Declared, param_at, declared_state, states_at, one_real, more_than, type_at}
use Rattle.fx_syntax.specs.Runs.{IsListed}
use Rattle.fx_syntax.specs.Fronts.{IsTyped, IsParam, IsState, IsStates, none, listed, IsOneReal, IsType, single, several}
use Rattle.fx_syntax.proofs.Outcomes.{OnOk, done, failed, and_then, choose, weaken, steps, on_true, on_false}
use Rattle.fx_syntax.proofs.Marks.{mark, same_head, next_is, is_next, not_next, behind_is, next_shorter, want_spells, want_reads, real_spells, real_reads, real_shorter, signed_spells, signed_reads, signed_shorter}
use Rattle.fx_syntax.proofs.Repeats.{itself, as_seen, from_seen, Any, keeps_any, SpellsEach, KeepsEach, listed_spells, listed_reads, listed_shorter, listed_keeps}

-- ---- names that are new

-- one more fits, and has a name of its own
pub record IsFree (limit count : ℕ) (names : List Text) (t : Lexeme) : Type 0 where
  pub few : count < limit
  pub fresh : has_name names t.text ≡ false

pub free_spells : (limit count : ℕ) (names : List Text) (t : Lexeme) → count ≤ limit →
    OnOk (λ u. IsFree limit count names t) (free_at limit count names t)
unfolding free_at
free_spells limit count names t le =
    choose (eqb count limit) (λ e. failed) (λ other.
    choose (has_name names t.text) (λ e. failed) (λ e.
    let ne : count ≢ limit = search (rules, tests) in
    done (record { few = omega arith; fresh = e })))

pub free_reads : (limit count : ℕ) (names : List Text) (t : Lexeme) → count < limit → has_name names t.text ≡ false →
    free_at limit count names t ≡ Ok tt
unfolding free_at
free_reads limit count names t lt e =
    let p : eqb count limit ≡ false = search (rules, tests) in on_false _ p (on_false _ e refl)

-- ---- param

-- there is room for one more
abbrev pub HasRoom : Subjects → Type 0
HasRoom subjects = length subjects ≤ 64

pub param_spells : (end : ℕ) → SpellsEach itself HasRoom IsParam (param_at end)
unfolding param_at
param_spells end s room ts = as_seen (
    and_then (want_spells end heads.Name ts) (λ t n.
    and_then (free_spells 64 (length s) (names_of s) t.0 room) (λ u free.
    and_then (want_spells end heads.Colon t.1) (λ c colon.
    and_then (real_spells end c.1) (λ r real.
    done (record {
      name = t.0;
      typed = record { colons = t.1; reals = c.1; name_next = n; colon = mark colon; real = real };
      few = free.few;
      fresh = free.fresh;
      value = refl;
    }))))))

pub param_room : KeepsEach HasRoom IsParam
param_room s ts more us i =
    subst HasRoom (sym i.value) (let e = length-append s (new_subject i.name ∷ []) in let few = i.few in omega arith)

pub param_reads : (end : ℕ) (s : Subjects) (ts : Tokens) (more : Subjects) (us : Tokens) → IsParam s ts more us →
    param_at end s ts ≡ Ok (more, us)
unfolding param_at
param_reads end s ts more us i =
    steps _ (want_reads end i.typed.name_next) (
    steps _ (free_reads 64 (length s) (names_of s) i.name i.few i.fresh) (
    steps _ (want_reads end i.typed.colon.next) (
    steps _ (real_reads end i.typed.real) (
    ap (λ (m : Subjects). Ok (m, us)) (sym i.value)))))

pub typed_shorter : {ts : Tokens} {t : Lexeme} {us : Tokens} → IsTyped ts t us → length us < length ts
typed_shorter i =
    let a = next_shorter i.name_next in let b = next_shorter i.colon.next in let c = real_shorter i.real in omega arith

pub param_shorter : (s : Subjects) (ts : Tokens) (more : Subjects) (us : Tokens) → IsParam s ts more us →
    length us < length ts
param_shorter s ts more us i = typed_shorter i.typed

-- ---- state

abbrev HasPlace : Declared → Type 0
HasPlace d = length d.states ≤ 32

pub state_spells : (end : ℕ) → SpellsEach itself HasPlace IsState (declared_state end)
unfolding declared_state
state_spells end h room ts = as_seen (
    and_then (want_spells end heads.Name ts) (λ t n.
    and_then (free_spells 32 (length h.states) h.names t.0 room) (λ u free.
    and_then (want_spells end heads.Colon t.1) (λ c colon.
    and_then (real_spells end c.1) (λ r real.
    and_then (want_spells end heads.Equals r.1) (λ e equals.
    and_then (signed_spells end e.1) (λ d signed.
    done (record {
      name = t.0;
      start = d.0;
      signs = r.1;
      starts = e.1;
      typed = record { colons = t.1; reals = c.1; name_next = n; colon = mark colon; real = real };
      equals = mark equals;
      start_is = signed;
      few = free.few;
      fresh = free.fresh;
      value = refl;
    }))))))))

state_room : KeepsEach HasPlace IsState
state_room h ts more us i =
    subst HasPlace (sym i.value)
    (let e = length-append h.states (record { name = i.name.text; start = decimal_value i.start } ∷ []) in
    let few = i.few in omega arith)

pub state_reads : (end : ℕ) (h : Declared) (ts : Tokens) (more : Declared) (us : Tokens) → IsState h ts more us →
    declared_state end h ts ≡ Ok (more, us)
unfolding declared_state
state_reads end h ts more us i =
    steps _ (want_reads end i.typed.name_next) (
    steps _ (free_reads 32 (length h.states) h.names i.name i.few i.fresh) (
    steps _ (want_reads end i.typed.colon.next) (
    steps _ (real_reads end i.typed.real) (
    steps _ (want_reads end i.equals.next) (
    steps _ (signed_reads end i.start_is) (
    ap (λ (m : Declared). Ok (m, us)) (sym i.value)))))))

state_shorter : (h : Declared) (ts : Tokens) (more : Declared) (us : Tokens) → IsState h ts more us →
    length us < length ts
state_shorter h ts more us i =
    let a = typed_shorter i.typed in
    let b = next_shorter i.equals.next in
    let c = signed_shorter i.start_is in
    omega arith

pub states_spells : (end : ℕ) (inputs : List Text) (ts : Tokens) →
    OnOk (λ x. IsStates inputs ts x.0 x.1) (states_at end inputs ts)
unfolding states_at
states_spells end inputs ts = choose (next_head ts ==ₕ heads.Open)
    (λ e. let t = next_is ts heads.Open (same_head _ _ e) refl in
    weaken (λ x i. listed (mark t.1) i)
    (from_seen (listed_spells itself HasPlace IsState (declared_state end) (state_spells end) state_room end
    (record { names = inputs; states = [] }) (omega arith) (drop 1 ts))))
    (λ e. done none)

pub states_reads : (end : ℕ) {inputs : List Text} {ts : Tokens} {d : Declared} {rest : Tokens} →
    IsStates inputs ts d rest → (next_head rest ==ₕ heads.Open) ≡ false → states_at end inputs ts ≡ Ok (d, rest)
unfolding states_at
states_reads end none off = on_false _ off refl
states_reads end {inputs = inputs} (listed n i) off = on_true _ (is_next n.next) (
    ap (λ us. listed_by (declared_state end) end (record { names = inputs; states = [] }) us) (behind_is n.next)
    ∙ listed_reads itself IsState (declared_state end) (λ ts. Unit {0})
    (λ a ts b us i fits. state_reads end a ts b us i) state_shorter end (λ ts t us n. tt {0})
    (λ ts t us n. tt {0}) i)

pub states_shorter : {inputs : List Text} {ts : Tokens} {d : Declared} {rest : Tokens} → IsStates inputs ts d rest →
    length rest ≤ length ts
states_shorter none = omega arith
states_shorter (listed n i) =
    let a = next_shorter n.next in let b = listed_shorter IsState state_shorter i in omega arith

-- the names of inputs and states in a row
HasNames : List Text → Declared → Type 0
HasNames inputs d = d.names ≡ inputs ++ map (λ s. s.name) d.states

name_snoc : (states : List State) (s : State) →
    map (λ s. s.name) (states ++ s ∷ []) ≡ map (λ s. s.name) states ++ s.name ∷ []
name_snoc [] s = refl
name_snoc (u ∷ states) s = ap (λ ns. u.name ∷ ns) (name_snoc states s)

state_names : (inputs : List Text) (h : Declared) (ts : Tokens) (more : Declared) (us : Tokens) → IsState h ts more us →
    HasNames inputs h → HasNames inputs more
unfolding HasNames
state_names inputs h ts more us i e = subst (HasNames inputs) (sym i.value) (
    ap (λ ns. ns ++ i.name.text ∷ []) e ∙ append_assoc inputs (map (λ s. s.name) h.states) (i.name.text ∷ [])
    ∙ ap (λ ns. inputs ++ ns) (sym (name_snoc h.states (record { name = i.name.text; start = decimal_value i.start }))))

pub declared_names : {inputs : List Text} {ts : Tokens} {d : Declared} {rest : Tokens} → IsStates inputs ts d rest →
    d.names ≡ inputs ++ map (λ s. s.name) d.states
unfolding HasNames
declared_names {inputs = inputs} none = sym (append-nil inputs)
declared_names {inputs = inputs} (listed n i) =
    listed_keeps IsState (HasNames inputs) (state_names inputs) i (sym (append-nil inputs))

-- ---- type

pub one_spells : (end first states : ℕ) → SpellsEach itself Any (IsOneReal states) (one_real end first states)
unfolding one_real
one_spells end first states n any ts = as_seen (
    and_then (real_spells end ts) (λ r real.
    choose (nat_lt (states + 64) (n + 1)) (λ e. failed) (λ e.
    let le : n + 1 ≤ states + 64 = search (rules, tests) in
    done (record { real = real; few = omega arith; value = refl }))))

one_reads : (end first states : ℕ) (n : ℕ) (ts : Tokens) (m : ℕ) (us : Tokens) → IsOneReal states n ts m us →
    one_real end first states n ts ≡ Ok (m, us)
unfolding one_real
one_reads end first states n ts m us i =
    let few = i.few in
    let le : nat_lt (states + 64) (n + 1) ≡ false = search (rules, tests, arith) in
    steps _ (real_reads end i.real) (on_false _ le (ap (λ (m : ℕ). Ok (m, us)) (sym i.value)))

one_shorter : (states n : ℕ) (ts : Tokens) (m : ℕ) (us : Tokens) → IsOneReal states n ts m us → length us < length ts
one_shorter states n ts m us i = real_shorter i.real

more_spells : (first states : ℕ) {P : ℕ × Tokens → Type 0} (x : ℕ × Tokens) → P x →
    OnOk (λ y. (states < y.0) × P y) (more_than first states x)
more_spells first states {P} x p =
    choose (nat_le x.0 states) (λ e. failed) (λ e. let lt : states < x.0 = search (rules, tests) in done (lt, p))

more_reads : (first states n : ℕ) (us : Tokens) → states < n → more_than first states (n, us) ≡ Ok (n, us)
more_reads first states n us lt = let e : nat_le n states ≡ false = search (rules, tests) in on_false _ e refl

pub type_spells : (end states : ℕ) (ts : Tokens) → OnOk (λ x. IsType states ts x.0 x.1) (type_at end states ts)
unfolding type_at
type_spells end states ts = choose (next_head ts ==ₕ heads.Open)
    (λ e. let t = next_is ts heads.Open (same_head _ _ e) refl in
    and_then (from_seen (listed_spells itself Any (IsOneReal states) (one_real end (next_place end ts) states)
    (one_spells end (next_place end ts) states) (keeps_any (IsOneReal states)) end 0 (tt {0}) (drop 1 ts)))
    (λ x i. weaken (λ y p. several (mark t.1) p.1 p.0)
    (more_spells (next_place end ts) states {P = λ y. IsListed (IsOneReal states) 0 (drop 1 ts) y.0 y.1} x i)))
    (λ e. and_then (from_seen (one_spells end (next_place end ts) states 0 (tt {0}) ts))
    (λ x i. weaken (λ y p. single p.1 p.0)
    (more_spells (next_place end ts) states {P = λ y. IsOneReal states 0 ts y.0 y.1} x i)))

pub type_shorter : (states : ℕ) {ts : Tokens} {n : ℕ} {us : Tokens} → IsType states ts n us → length us < length ts
type_shorter states (single i lt) = real_shorter i.real
type_shorter states (several o i lt) =
    let a = next_shorter o.next in let b = listed_shorter (IsOneReal states) (one_shorter states) i in omega arith

pub type_more : (states : ℕ) {ts : Tokens} {n : ℕ} {us : Tokens} → IsType states ts n us → 0 < n
type_more states (single i lt) = omega arith
type_more states (several o i lt) = omega arith

pub type_reads : (end states : ℕ) {ts : Tokens} {n : ℕ} {us : Tokens} → IsType states ts n us →
    type_at end states ts ≡ Ok (n, us)
unfolding type_at
type_reads end states {ts = ts} {n = n} {us = us} (single i lt) =
    on_false _ (not_next i.real.next heads.Open refl)
    (steps _ (one_reads end (next_place end ts) states 0 ts n us i) (more_reads (next_place end ts) states n us lt))
type_reads end states {ts = ts} {n = n} {us = us} (several o i lt) = on_true _ (is_next o.next) (steps _
    (ap (λ us. listed_by (one_real end (next_place end ts) states) end 0 us) (behind_is o.next)
    ∙ listed_reads itself (IsOneReal states) (one_real end (next_place end ts) states) (λ ts. Unit {0})
    (λ a ts' b us i fits. one_reads end (next_place end ts) states a ts' b us i) (one_shorter states) end
    (λ ts t us n. tt {0}) (λ ts t us n. tt {0}) i)
    (more_reads (next_place end ts) states n us lt))
