-- Whole functions, read and spelled.
use Rattle.std.proofs.Common.{◌≡◌, ℕ, ◌<◌, ◌≤◌, ◌+◌, ◌-◌, true, false, List, [], ◌++◌, length, map, Ok, refl, sym, ap, subst, ◌∙◌, arith, rules, tests}
use Rattle.std.specs.Prelude.{nat_lt}
use Rattle.std.proofs.lemmas.List.{append-nil, length-map}
use Rattle.fx_model.specs.Tree.{Tree}
use Rattle.fx_model.specs.Function.{Function, Input, State, Temp, Demand}
use Rattle.fx_model.specs.Nodes.{nodes_of}
use Rattle.fx_lexer.specs.Tokens.{Lexeme}
use Rattle.fx_grammar.specs.declared.head.Head.TheVariants as heads
use Rattle.fx_grammar.specs.Heads.{◌==ₕ◌}
use Rattle.fx_model.specs.Steps.{◌>>=◌}
use Rattle.fx_grammar.specs.Steps.{Text, Tokens, Parsed, next_head, want, past_semicolon, has_name}
use Rattle.fx_grammar.specs.Ranges.{Subjects, names_of}
use Rattle.fx_grammar.specs.Fronts.{param_at}
use Rattle.fx_grammar.specs.Bodies.{Body, Results, vals_at, result_at, count_of}
use Rattle.fx_grammar.specs.Functions.{require_word_at, new_name, Front, front_at, body_of, within_nodes, ending_at, body_at, def_at}
use Rattle.fx_syntax.specs.Leaves.{IsNext, IsMaybeSemicolon, left_out, written}
use Rattle.fx_syntax.specs.Runs.{IsRun, IsBehind}
use Rattle.fx_syntax.specs.Fronts.{IsParam}
use Rattle.fx_syntax.specs.Conditions.{IsRequire}
use Rattle.fx_syntax.specs.Expressions.{all_names}
use Rattle.fx_syntax.specs.Bodies.{with_temps, IsVal, IsResult}
use Rattle.fx_syntax.specs.Ensuring.{IsMaybeEnsuring}
use Rattle.fx_syntax.specs.Functions.{IsFront, scope_of, IsBody, IsDef}
use Rattle.fx_syntax.proofs.Outcomes.{OnOk, done, failed, and_then, choose, weaken, steps, on_true, on_false}
use Rattle.fx_syntax.proofs.Marks.{mark, same_head, next_is, is_next, not_next, behind_is, next_shorter, want_spells, want_reads, semicolon_spells, semicolon_reads}
use Rattle.fx_syntax.proofs.Repeats.{Seen, itself, from_seen, listed_spells, listed_reads, listed_shorter}
use Rattle.fx_syntax.proofs.Fronts.{HasRoom, param_spells, param_room, param_reads, param_shorter, states_spells, states_reads, states_shorter, declared_names, type_spells, type_reads, type_shorter, type_more}
use Rattle.fx_syntax.proofs.Nesting.{require_spells, require_reads, require_shorter, require_count}
use Rattle.fx_syntax.proofs.ExpressionReads.{Stops, stops_next}
use Rattle.fx_syntax.proofs.Bodies as bodies
use Rattle.fx_syntax.proofs.Bodies.{sizes, tree_sizes, results_of, vals_spell, vals_read, vals_follow, vals_shorter, result_spells, result_begins, result_reads, result_shorter, semicolon_shorter}
use Rattle.fx_syntax.proofs.Demands.{demands_spell, demands_read}
use Rattle.fx_syntax.proofs.Ensuring.{maybe_ensuring_spells, maybe_ensuring_reads, maybe_ensuring_shorter}
use Rattle.fx_syntax.proofs.NodeCounts.{nodes_length}

-- ---- fronts

new_spells : (names : List Text) (t : Lexeme) → OnOk (λ u. has_name names t.text ≡ false) (new_name names t)
new_spells names t = choose (has_name names t.text) (λ e. failed) (λ e. done e)

new_reads : (names : List Text) (t : Lexeme) → has_name names t.text ≡ false → new_name names t ≡ Ok tt
new_reads names t e = on_false _ e refl

pub front_spells : (end : ℕ) (functions : List Text) (ts : Tokens) →
    OnOk (λ x. IsFront functions ts x.0 x.1) (front_at end functions ts)
unfolding front_at
front_spells end functions ts =
    and_then (want_spells end heads.Name ts) (λ t n.
    and_then (new_spells functions t.0) (λ u fresh.
    and_then (want_spells end heads.Open t.1) (λ o opening.
    and_then (from_seen (listed_spells itself HasRoom IsParam (param_at end) (param_spells end) param_room end []
    (omega arith) o.1)) (λ s params.
    and_then (states_spells end (names_of s.0) s.1) (λ d states.
    and_then (want_spells end heads.Colon d.1) (λ c colon.
    and_then (type_spells end (length d.0.states) c.1) (λ r reals.
    and_then (want_spells end heads.Equals r.1) (λ e equals.
    and_then (want_spells end heads.OpenBrace e.1) (λ b brace.
    done (record {
      name = t.0;
      opens = t.1;
      params = o.1;
      states = s.1;
      colons = d.1;
      types = c.1;
      signs = r.1;
      braces = e.1;
      name_next = n;
      opening = mark opening;
      params_are = params;
      states_are = states;
      colon = mark colon;
      type_is = reals;
      equals = mark equals;
      brace = mark brace;
      fresh = fresh;
      named = refl;
    }))))))))))

same_front : (f : Front) (name : Text) → f.name ≡ name →
    record { name = name; subjects = f.subjects; declared = f.declared; reals = f.reals } ≡ f
same_front f name e = ap (λ (n : Text). the_front n) (sym e)
  where
    the_front : Text → Front
    the_front n = record { name = n; subjects = f.subjects; declared = f.declared; reals = f.reals }

pub front_reads : (end : ℕ) (functions : List Text) (ts : Tokens) (f : Front) (rest : Tokens) →
    IsFront functions ts f rest → front_at end functions ts ≡ Ok (f, rest)
unfolding front_at
front_reads end functions ts f rest i =
    steps _ (want_reads end i.name_next) (
    steps _ (new_reads functions i.name i.fresh) (
    steps _ (want_reads end i.opening.next) (
    steps _ (listed_reads itself IsParam (param_at end) (λ ts. Unit {0})
    (λ s ts after us i fits. param_reads end s ts after us i) param_shorter end (λ ts t us n. tt {0})
    (λ ts t us n. tt {0}) i.params_are) (
    steps _ (states_reads end i.states_are (not_next i.colon.next heads.Open refl)) (
    steps _ (want_reads end i.colon.next) (
    steps _ (type_reads end (length f.declared.states) i.type_is) (
    steps _ (want_reads end i.equals.next) (
    steps _ (want_reads end i.brace.next) (
    ap (λ (g : Front). Ok (g, rest)) (same_front f i.name.text i.named))))))))))

front_shorter : (functions : List Text) (ts : Tokens) (f : Front) (rest : Tokens) → IsFront functions ts f rest →
    length rest < length ts
front_shorter functions ts f rest i =
    let a = next_shorter i.name_next in let b = next_shorter i.opening.next in
    let c = listed_shorter IsParam param_shorter i.params_are in
    let d = states_shorter i.states_are in let e = next_shorter i.colon.next in
    let g = type_shorter (length f.declared.states) i.type_is in
    let h = next_shorter i.equals.next in let k = next_shorter i.brace.next in omega arith

-- ---- bodies

require_word_spells : (end : ℕ) (subjects : Subjects) (ts : Tokens) →
    OnOk (λ us. (t : Lexeme) × IsNext heads.Require ts t us) (require_word_at end subjects ts)
unfolding require_word_at
require_word_spells end subjects ts = choose (next_head ts ==ₕ heads.Require)
    (λ e. done (next_is ts heads.Require (same_head _ _ e) refl))
    (λ e. choose (next_head ts ==ₕ heads.Unsupported) (λ e. failed) (λ e. failed))

require_word_reads : (end : ℕ) (subjects : Subjects) (ts : Tokens) (t : Lexeme) (us : Tokens) →
    IsNext heads.Require ts t us → require_word_at end subjects ts ≡ Ok us
unfolding require_word_at
require_word_reads end subjects ts t us n = on_true _ (is_next n) (ap (λ (us : Tokens). Ok us) (behind_is n))

-- the names of a front, in a row, are what its body begins with
body_is : (f : Front) → f.declared.names ≡ names_of f.subjects ++ map (λ s. s.name) f.declared.states →
    body_of f ≡ bodies.body_at (scope_of f) []
unfolding bodies.the_body
body_is f e =
    ap (λ ns. bodies.the_body ns (length f.subjects) (length f.declared.states) [] 0) (e
    ∙ sym (append-nil (names_of f.subjects ++ map (λ s. s.name) f.declared.states)))
    ∙ ap (λ n. bodies.the_body (all_names (with_temps (scope_of f) [])) n (length f.declared.states) [] 0)
    (sym (length-map f.subjects (λ s. s.name)))
    ∙ ap (λ n. bodies.the_body (all_names (with_temps (scope_of f) [])) (length (names_of f.subjects)) n [] 0)
    (sym (length-map f.declared.states (λ s. s.name)))

-- what was read of the body before its brace
function_of : Front → List Input → List Temp → List Tree → List Demand → Function
function_of f inputs temps xs demands = record {
  name = f.name;
  inputs = inputs;
  states = f.declared.states;
  temps = temps;
  results = xs;
  demands = demands;
}

closing : ℕ → ℕ → Front → List Input → Body → Results → Tokens → Parsed Function
closing end word f inputs b r us = do
  demands ← ending_at end word (count_of b (length r.trees) r.nodes) (f.reals - length f.declared.states) us
  Ok (
    record {
      name = f.name;
      inputs = inputs;
      states = f.declared.states;
      temps = b.temps;
      results = r.trees;
      demands = demands.0;
    },
    demands.1,
  )

ending : ℕ → ℕ → Front → List Input → Body → Tokens → Parsed Function
ending end word f inputs b us = result_at end word f.reals b us >>= λ r. closing end word f inputs b r.0 r.1

-- the brace that closes, and the demands
record IsClosing (f : Front) (inputs : List Input) (temps : List Temp) (xs : List Tree) (ts : Tokens) (fn : Function)
    (rest : Tokens) : Type 0 where
  demands : List Demand
  brace : Lexeme
  braces : Tokens
  bounds : Tokens
  semicolon : IsMaybeSemicolon ts braces
  next : IsNext heads.CloseBrace braces brace bounds
  ensuring_is : IsMaybeEnsuring (f.reals - length f.declared.states) bounds demands rest
  value : fn ≡ function_of f inputs temps xs demands
  nodes : length (nodes_of (function_of f inputs temps xs demands)) ≤ 4000

count_is : (f : Front) (inputs : List Input) (temps : List Temp) (xs : List Tree) (demands : List Demand) →
    length inputs ≡ length f.subjects
    → length (nodes_of (function_of f inputs temps xs demands))
    ≡ length (names_of f.subjects) + length
    (map (λ (s : State). s.name) f.declared.states) + length xs + (sizes temps + tree_sizes xs)
unfolding function_of
count_is f inputs temps xs demands same =
    let a = nodes_length (function_of f inputs temps xs demands) in
    let b = length-map f.subjects (λ s. s.name) in
    let c = length-map f.declared.states (λ s. s.name) in omega arith

-- the brace and what may be demanded, of few nodes
record IsEnding (nodes outputs : ℕ) (ts : Tokens) (demands : List Demand) (rest : Tokens) : Type 0 where
  brace : Lexeme
  braces : Tokens
  bounds : Tokens
  semicolon : IsMaybeSemicolon ts braces
  next : IsNext heads.CloseBrace braces brace bounds
  ensuring_is : IsMaybeEnsuring outputs bounds demands rest
  few : nodes ≤ 4000

within_spells : (word nodes : ℕ) → OnOk (λ u. nodes ≤ 4000) (within_nodes word nodes)
within_spells word nodes =
    choose (nat_lt 4000 nodes) (λ e. failed) (λ e. let few : nodes ≤ 4000 = search (rules, tests) in done few)

ending_spells : (end word nodes outputs : ℕ) (ts : Tokens) →
    OnOk (λ y. IsEnding nodes outputs ts y.0 y.1) (ending_at end word nodes outputs ts)
unfolding ending_at
ending_spells end word nodes outputs ts =
    and_then (want_spells end heads.CloseBrace (past_semicolon ts)) (λ c n.
    and_then (maybe_ensuring_spells end outputs c.1) (λ s said.
    and_then (within_spells word nodes) (λ u few.
    and_then (demands_spell s.0) (λ ds demands.
    done (record {
      brace = c.0;
      braces = past_semicolon ts;
      bounds = c.1;
      semicolon = semicolon_spells ts;
      next = n;
      ensuring_is = said ds demands;
      few = few;
    })))))

closing_spells : (end word : ℕ) (f : Front) (inputs : List Input) (temps : List Temp) (xs : List Tree) (ts : Tokens) →
    length inputs ≡ length f.subjects
    → OnOk (λ y. IsClosing f inputs temps xs ts y.0 y.1)
    (closing end word f inputs (bodies.body_at (scope_of f) temps) (results_of (sizes temps) xs) ts)
unfolding closing function_of
closing_spells end word f inputs temps xs ts same =
    and_then (ending_spells end word _ (f.reals - length f.declared.states) ts) (λ d i.
    let few = i.few in
    let count = count_is f inputs temps xs d.0 same in
    done (record {
      demands = d.0;
      brace = i.brace;
      braces = i.braces;
      bounds = i.bounds;
      semicolon = i.semicolon;
      next = i.next;
      ensuring_is = i.ensuring_is;
      value = refl;
      nodes = omega arith;
    }))

pub body_spells : (end word : ℕ) (f : Front) (ts : Tokens) →
    f.declared.names ≡ names_of f.subjects ++ map (λ s. s.name) f.declared.states → 0 < f.reals →
    OnOk (λ y. IsBody f ts y.0 y.1) (body_at end word f ts)
unfolding body_at closing ending function_of
body_spells end word f ts names some =
    and_then (require_word_spells end f.subjects ts) (λ r word_next.
    and_then (require_spells end f.subjects r) (λ inputs require.
    and_then (subst (λ b. OnOk
    (Seen (bodies.body_at (scope_of f))
    (IsRun (IsBehind heads.Val (IsVal (scope_of f))) [] (past_semicolon inputs.1))) (vals_at end b
    (past_semicolon inputs.1))) (sym (body_is f names)) (vals_spell (scope_of f) end (past_semicolon inputs.1)))
    (λ b vals.
    subst (λ b'. OnOk (λ y. IsBody f ts y.0 y.1) (ending end word f inputs.0 b' b.1)) (sym vals.same) (
    and_then (result_spells (scope_of f) vals.value end word f.reals b.1 some) (λ x results.
    subst (λ r'. OnOk (λ y. IsBody f ts y.0 y.1)
    (closing end word f inputs.0 (bodies.body_at (scope_of f) vals.value) r' x.1)) (sym results.same) (
    weaken (λ y closes.
    subst (λ fn. IsBody f ts fn y.1) (sym closes.value)
    (made r word_next inputs.0 inputs.1 require b.1 vals.value vals.is x.1 results.value results.is y.0 y.1 closes))
    (closing_spells end word f inputs.0 vals.value results.value x.1 (require_count require))))))))
  where
    made : (us : Tokens) → ((t : Lexeme) × IsNext heads.Require ts t us) → (inputs : List Input) (ends : Tokens) →
        IsRequire f.subjects us inputs ends
        → (vs : Tokens) (temps : List Temp) →
        IsRun (IsBehind heads.Val (IsVal (scope_of f))) [] (past_semicolon ends) temps vs
        → (ws : Tokens) (xs : List Tree) → IsResult (with_temps (scope_of f) temps) f.reals vs xs ws
        → (fn : Function) (rest : Tokens) (i : IsClosing f inputs temps xs ws fn rest) →
        IsBody f ts (function_of f inputs temps xs i.demands) rest
    made us n inputs ends require vs temps vals ws xs results fn rest i = record {
      conditions = us;
      ends = ends;
      vals = past_semicolon ends;
      results = vs;
      behind = ws;
      braces = i.braces;
      bounds = i.bounds;
      word = mark n.1;
      require_is = require;
      require_semicolon = semicolon_spells ends;
      vals_are = vals;
      result_is = results;
      result_semicolon = i.semicolon;
      brace = mark i.next;
      ensuring_is = i.ensuring_is;
      name = refl;
      states = refl;
      nodes = i.nodes;
    }

pub def_spells : (end word : ℕ) (functions : List Text) (ts : Tokens) →
    OnOk (λ y. IsDef functions ts y.0 y.1) (def_at end word functions ts)
unfolding def_at
def_spells end word functions ts =
    and_then (front_spells end functions ts) (λ f front.
    weaken (λ y body. record { front = f.0; bodies = f.1; front_is = front; body_is = body })
    (body_spells end word f.0 f.1 (declared_names front.states_are)
    (type_more (length f.0.declared.states) front.type_is)))

-- ---- the other way

same_function : (f : Front) (fn : Function) → fn.name ≡ f.name → fn.states ≡ f.declared.states →
    function_of f fn.inputs fn.temps fn.results fn.demands ≡ fn
unfolding function_of
same_function f fn n s = ap (λ (x : Text). one_function x f.declared.states) (sym n) ∙ ap (one_function fn.name) (sym s)
  where
    one_function : Text → List State → Function
    one_function x states = record {
      name = x;
      inputs = fn.inputs;
      states = states;
      temps = fn.temps;
      results = fn.results;
      demands = fn.demands;
    }

ending_reads : (end word : ℕ) {nodes outputs : ℕ} {ts : Tokens} {demands : List Demand} {rest : Tokens} →
    IsEnding nodes outputs ts demands rest → (next_head rest ==ₕ heads.Ensuring) ≡ false
    → ending_at end word nodes outputs ts ≡ Ok (demands, rest)
unfolding ending_at
ending_reads end word {nodes} {outputs} {rest = rest} i off =
    let said = maybe_ensuring_reads end outputs i.ensuring_is off in
    let few = i.few in
    let e : nat_lt 4000 nodes ≡ false = search (rules, tests, arith) in
    steps _ (ap (want end heads.CloseBrace) (semicolon_reads i.semicolon (not_next i.next heads.Semicolon refl))
    ∙ want_reads end i.next) (
    steps _ said.read (
    steps _ (on_false _ e refl) (
    steps _ (demands_read said.demands_are) refl)))

closing_reads : (end word : ℕ) (f : Front) (ts : Tokens) (fn : Function) (rest : Tokens) (i : IsBody f ts fn rest) →
    (next_head rest ==ₕ heads.Ensuring) ≡ false
    → closing end word f fn.inputs (bodies.body_at (scope_of f) fn.temps)
    (results_of (sizes fn.temps) fn.results) i.behind ≡ Ok (fn, rest)
unfolding closing function_of
closing_reads end word f ts fn rest i off =
    let same = same_function f fn i.name i.states in
    let count = count_is f fn.inputs fn.temps fn.results fn.demands (require_count i.require_is) in
    let few : length (nodes_of (function_of f fn.inputs fn.temps fn.results fn.demands)) ≤ 4000 =
    subst (λ g. length (nodes_of g) ≤ 4000) (sym same) i.nodes in
    let le : count_of (bodies.body_at (scope_of f) fn.temps) (length fn.results)
    (results_of (sizes fn.temps) fn.results).nodes ≤ 4000 = omega arith in
    steps _ (ending_reads end word (record {
      brace = i.brace.token;
      braces = i.braces;
      bounds = i.bounds;
      semicolon = i.result_semicolon;
      next = i.brace.next;
      ensuring_is = i.ensuring_is;
      few = le;
    }) off) (ap (λ (g : Function). Ok (g, rest)) same)

-- behind a result a semicolon or the brace stands
brace_stops : {ts us : Tokens} {t : Lexeme} {rest : Tokens} → IsMaybeSemicolon ts us →
    IsNext heads.CloseBrace us t rest → Stops true ts
brace_stops left_out b = stops_next true b refl refl
brace_stops (written n) b = stops_next true n.next refl refl

pub body_reads : (end word : ℕ) (f : Front) (ts : Tokens) (fn : Function) (rest : Tokens) →
    f.declared.names ≡ names_of f.subjects ++ map (λ s. s.name) f.declared.states → IsBody f ts fn rest →
    (next_head rest ==ₕ heads.Ensuring) ≡ false
    → body_at end word f ts ≡ Ok (fn, rest)
unfolding body_at closing
body_reads end word f ts fn rest names i off =
    let begins = result_begins i.result_is in
    steps _ (require_word_reads end f.subjects ts i.word.token i.conditions i.word.next) (
    steps _ (require_reads end i.require_is) (
    steps _ (ap (λ b. vals_at end b (past_semicolon i.ends)) (body_is f names)
    ∙ ap (vals_at end (bodies.body_at (scope_of f) []))
    (semicolon_reads i.require_semicolon (vals_follow (scope_of f) end i.vals_are begins).semicolon)
    ∙ vals_read (scope_of f) end i.vals_are begins) (
    steps _ (result_reads (scope_of f) fn.temps end word f.reals i.result_is
    (brace_stops i.result_semicolon i.brace.next)) (
    closing_reads end word f ts fn rest i off))))

body_shorter : (f : Front) (ts : Tokens) (fn : Function) (rest : Tokens) → IsBody f ts fn rest → length rest < length ts
body_shorter f ts fn rest i =
    let a = next_shorter i.word.next in let b = require_shorter i.require_is in
    let c = semicolon_shorter i.require_semicolon in
    let d = vals_shorter (scope_of f) i.vals_are in let e = result_shorter i.result_is in
    let g = semicolon_shorter i.result_semicolon in
    let h = next_shorter i.brace.next in
    let k = maybe_ensuring_shorter (f.reals - length f.declared.states) i.ensuring_is in
    omega arith

pub def_reads : (end word : ℕ) (functions : List Text) (ts : Tokens) (fn : Function) (rest : Tokens) →
    IsDef functions ts fn rest → (next_head rest ==ₕ heads.Ensuring) ≡ false →
    def_at end word functions ts ≡ Ok (fn, rest)
unfolding def_at
def_reads end word functions ts fn rest i off =
    steps _ (front_reads end functions ts i.front i.bodies i.front_is)
    (body_reads end word i.front i.bodies fn rest (declared_names i.front_is.states_are) i.body_is off)

pub def_shorter : (functions : List Text) (ts : Tokens) (fn : Function) (rest : Tokens) → IsDef functions ts fn rest →
    length rest < length ts
def_shorter functions ts fn rest i =
    let a = front_shorter functions ts i.front i.bodies i.front_is in
    let b = body_shorter i.front i.bodies fn rest i.body_is in
    omega arith
