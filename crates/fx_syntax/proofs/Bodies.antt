-- Temps and results, read and spelled.
use Rattle.std.proofs.Common.{◌≡◌, ℕ, ◌<◌, ◌≤◌, ◌+◌, Bool, true, false, eqb, List, [], ◌∷◌, ◌++◌, length, drop, map, Ok, refl, sym, ap, subst, ◌∙◌, append_assoc, arith, rules, tests, length-append}
use Rattle.std.specs.Prelude.{◌&&◌, ◌||◌, not, min, nat_lt}
use Rattle.fx_model.specs.Tree.{Tree}
use Rattle.fx_model.specs.Function.{Temp}
use Rattle.fx_expr.specs.LawfulFunction.{IsLow}
use Rattle.fx_lexer.specs.Tokens.{Lexeme}
use Rattle.fx_grammar.specs.declared.head.Head.TheVariants as heads
use Rattle.fx_grammar.specs.Heads.{◌==ₕ◌}
use Rattle.fx_grammar.specs.Steps.{Text, Tokens, next_head, is_fresh, real_at, past_semicolon, listed as listed_by}
use Rattle.fx_grammar.specs.Operands.{Operand, is_high, tree_or, counted_nodes}
use Rattle.fx_grammar.specs.Bodies.{Body, whole_at, typed_at, with_temp, val_at, vals_at, Results, single_at, element_at, tuple_at, result_at}
use Rattle.fx_syntax.specs.Leaves.{IsNext, IsMaybeSemicolon, left_out, written}
use Rattle.fx_syntax.specs.Runs.{IsRun, IsBehind, IsListed}
use Rattle.fx_syntax.specs.Expressions.{Scope, all_names}
use Rattle.fx_syntax.specs.Bodies as syntax
use Rattle.fx_syntax.specs.Bodies.{with_temps, IsWholeExpr, IsMaybeTyped, IsVal, IsElement, IsResult, single, tuple}
use Rattle.fx_syntax.proofs.Outcomes.{OnOk, done, failed, and_then, choose, weaken, with_both, steps, on_true, on_false}
use Rattle.fx_syntax.proofs.Marks.{mark, same_head, next_is, is_next, not_next, next_head_is, behind_is, next_shorter, real_shorter, want_spells, want_reads, real_spells, real_reads, semicolon_spells, semicolon_reads}
use Rattle.fx_syntax.proofs.Repeats.{Seen, Any, keeps_any, SpellsEach, KeepsEach, many_spells, many_reads, many_fits, listed_spells, listed_reads, listed_shorter, behind_run_shorter}
use Rattle.fx_syntax.proofs.Fronts.{free_spells, free_reads}
use Rattle.fx_syntax.proofs.Operands.{operand_of, size, low_is, low_not_high, tree_is}
use Rattle.fx_syntax.proofs.Chains.{FollowsChain, follows, BeginsChain, begins_follows, begins_no_val, expr_begins, open_begins, expr_shorter}
use Rattle.fx_syntax.proofs.Expressions.{expr_spells, expr_ends}
use Rattle.fx_syntax.proofs.ExpressionReads.{Stops, stops_next, expr_reads}

-- ---- what is known behind so many temps

abbrev pub sizes : List Temp → ℕ
sizes [] = 0
sizes (t ∷ ts) = size t.tree + sizes ts

sizes-snoc : (ts : List Temp) (t : Temp) → sizes (ts ++ t ∷ []) ≡ sizes ts + size t.tree
sizes-snoc [] t = omega arith
sizes-snoc (u ∷ ts) t = let h = sizes-snoc ts t in omega arith

abbrev pub body_at : Scope → List Temp → Body
body_at scope temps = record {
  names = all_names (with_temps scope temps);
  inputs = length scope.inputs;
  states = length scope.states;
  temps = temps;
  nodes = min 4001 (sizes temps);
}

names-snoc : (ts : List Temp) (t : Temp) → map (λ t. t.name) (ts ++ t ∷ []) ≡ map (λ t. t.name) ts ++ t.name ∷ []
names-snoc [] t = refl
names-snoc (u ∷ ts) t = ap (λ ns. u.name ∷ ns) (names-snoc ts t)

unfoldable pub the_body : List Text → ℕ → ℕ → List Temp → ℕ → Body
the_body names inputs states temps nodes =
    record { names = names; inputs = inputs; states = states; temps = temps; nodes = nodes }

with_temp_is : (scope : Scope) (before : List Temp) (name : Text) (x : Tree) → IsLow x →
    with_temp (body_at scope before) name (operand_of x)
    ≡ body_at scope (before ++ record { name = name; tree = x } ∷ [])
unfolding the_body
with_temp_is scope before name x low =
    let t : Temp = record { name = name; tree = x } in
    let i = length scope.inputs in
    let s = length scope.states in
    let n : ℕ = min 4001 (min 4001 (sizes before) + min 4001 (size x)) in
    let temps : List Temp = before ++ record { name = name; tree = tree_or (operand_of x).tree } ∷ [] in
    let names = append_assoc (scope.inputs ++ scope.states) (map (λ t. t.name) before) (name ∷ [])
    ∙ ap (λ ns. scope.inputs ++ scope.states ++ ns) (sym (names-snoc before t)) in
    let nodes : n ≡ min 4001 (sizes (before ++ t ∷ [])) = let e = sizes-snoc before t in omega arith in
    ap (λ ns. the_body ns i s temps n) names
    ∙ ap (λ y. the_body (all_names (with_temps scope (before ++ t ∷ []))) i s
    (before ++ record { name = name; tree = y } ∷ []) n) (tree_is x low)
    ∙ ap (the_body (all_names (with_temps scope (before ++ t ∷ []))) i s (before ++ t ∷ [])) nodes

-- ---- whole expressions

minus_stops : (p q : Bool) → (p || q) ≡ false → q ≡ false
minus_stops true q e = absurd cc
minus_stops false q e = e

pub whole_spells : (scope : Scope) (temps : List Temp) (end : ℕ) (ts : Tokens) →
    OnOk (Seen operand_of (IsWholeExpr (with_temps scope temps) ts)) (whole_at end (body_at scope temps) ts)
unfolding whole_at
whole_spells scope temps end ts =
    and_then (with_both (expr_spells (with_temps scope temps) end true 200 ts)
    (expr_ends (with_temps scope temps) end true 200 ts)) (λ x both.
    choose (is_high x.0) (λ e. failed) (λ e.
    done (record {
      value = both.0.value;
      same = both.0.same;
      is = record {
        expression = both.0.is;
        low = low_is both.0.value (sym (ap is_high both.0.same) ∙ e);
        ends = minus_stops _ _ both.1;
      };
    })))

-- nothing goes on behind it
pub whole_stops : {scope : Scope} {ts : Tokens} {x : Tree} {rest : Tokens} → IsWholeExpr scope ts x rest →
    FollowsChain rest → Stops true rest
whole_stops {rest = rest} i f = record { term = f.term; sum = by (next_head rest ==ₕ heads.Plus) f.plus }
  where
    by : (p : Bool) → p ≡ false → (p || ((next_head rest ==ₕ heads.Minus) && not (is_fresh rest))) ≡ false
    by true e = absurd cc
    by false e = i.ends

pub whole_reads : (scope : Scope) (temps : List Temp) (end : ℕ) (ts : Tokens) (x : Tree) (rest : Tokens) →
    IsWholeExpr (with_temps scope temps) ts x rest → Stops true rest →
    whole_at end (body_at scope temps) ts ≡ Ok (operand_of x, rest)
unfolding whole_at
whole_reads scope temps end ts x rest i stop =
    steps _ (expr_reads (with_temps scope temps) end true 200 ts x rest i.expression stop)
    (on_false _ (low_not_high x i.low) refl)

-- ---- vals

typed_spells : (end : ℕ) (ts : Tokens) → OnOk (IsMaybeTyped ts) (typed_at end ts)
unfolding typed_at
typed_spells end ts = choose (next_head ts ==ₕ heads.Colon)
    (λ e. let t = next_is ts heads.Colon (same_head _ _ e) refl in
    and_then (real_spells end (drop 1 ts)) (λ r real. done (syntax.written (mark t.1) real)))
    (λ e. done syntax.left_out)

typed_reads : (end : ℕ) {ts rest : Tokens} → IsMaybeTyped ts rest → (next_head rest ==ₕ heads.Colon) ≡ false →
    typed_at end ts ≡ Ok rest
unfolding typed_at
typed_reads end syntax.left_out off = on_false _ off refl
typed_reads end (syntax.written n r) off =
    on_true _ (is_next n.next) (steps _ (ap (real_at end) (behind_is n.next) ∙ real_reads end r) refl)

typed_shorter : {ts rest : Tokens} → IsMaybeTyped ts rest → length rest ≤ length ts
typed_shorter syntax.left_out = omega arith
typed_shorter (syntax.written n r) = let a = next_shorter n.next in let b = real_shorter r in omega arith

pub semicolon_shorter : {ts rest : Tokens} → IsMaybeSemicolon ts rest → length rest ≤ length ts
semicolon_shorter left_out = omega arith
semicolon_shorter (written n) = let a = next_shorter n.next in omega arith

abbrev HasRoom : List Temp → Type 0
HasRoom temps = length temps ≤ 1000

val_spells : (scope : Scope) (end : ℕ) → SpellsEach (body_at scope) HasRoom (IsVal scope) (val_at end)
unfolding val_at
val_spells scope end before room ts =
    and_then (want_spells end heads.Name ts) (λ t n.
    and_then (free_spells 1000 (length before) (all_names (with_temps scope before)) t.0 room) (λ u free.
    and_then (typed_spells end t.1) (λ c typed.
    and_then (want_spells end heads.Equals c) (λ e equals.
    and_then (whole_spells scope before end e.1) (λ x seen.
    done (record {
      value = before ++ record { name = t.0.text; tree = seen.value } ∷ [];
      same = ap (with_temp (body_at scope before) t.0.text) seen.same
          ∙ with_temp_is scope before t.0.text seen.value seen.is.low;
      is = record {
        name = t.0;
        tree = seen.value;
        types = t.1;
        signs = c;
        expressions = e.1;
        ends = x.1;
        name_next = n;
        typed = typed;
        equals = mark equals;
        tree_is = seen.is;
        semicolon = semicolon_spells x.1;
        few = free.few;
        fresh = free.fresh;
        value = refl;
      };
    }))))))

val_room : (scope : Scope) → KeepsEach HasRoom (IsVal scope)
val_room scope before ts after us i =
    subst HasRoom (sym i.value) (let e = length-append before (record { name = i.name.text; tree = i.tree } ∷ []) in
    let few = i.few in omega arith)

pub vals_spell : (scope : Scope) (end : ℕ) (ts : Tokens) →
    OnOk (Seen (body_at scope) (IsRun (IsBehind heads.Val (IsVal scope)) [] ts)) (vals_at end (body_at scope []) ts)
unfolding vals_at
vals_spell scope end ts =
    many_spells (body_at scope) HasRoom (IsVal scope) (val_at end) (val_spells scope end)
    (val_room scope) heads.Val refl [] (omega arith) ts

-- what is behind an expression that a semicolon may end
ends_stop : {scope : Scope} {es : Tokens} {x : Tree} {ts rest : Tokens} → IsWholeExpr scope es x ts →
    IsMaybeSemicolon ts rest → FollowsChain rest → Stops true ts
ends_stop i left_out f = whole_stops i f
ends_stop i (written n) f = stops_next true n.next refl refl

val_reads : (scope : Scope) (end : ℕ) (before : List Temp) (ts : Tokens) (after : List Temp) (rest : Tokens) →
    IsVal scope before ts after rest → FollowsChain rest →
    val_at end (body_at scope before) ts ≡ Ok (body_at scope after, rest)
unfolding val_at
val_reads scope end before ts after rest i f =
    steps _ (want_reads end i.name_next) (
    steps _ (free_reads 1000 (length before) (all_names (with_temps scope before)) i.name i.few i.fresh) (
    steps _ (typed_reads end i.typed (not_next i.equals.next heads.Colon refl)) (
    steps _ (want_reads end i.equals.next) (
    steps _ (whole_reads scope before end i.expressions i.tree i.ends i.tree_is (ends_stop i.tree_is i.semicolon f)) (
    ap (λ (b : Body). Ok (b, past_semicolon i.ends)) (with_temp_is scope before i.name.text i.tree i.tree_is.low
    ∙ ap (body_at scope) (sym i.value))
    ∙ ap (λ (us : Tokens). Ok (body_at scope after, us)) (semicolon_reads i.semicolon f.semicolon))))))

val_shorter : (scope : Scope) (before : List Temp) (ts : Tokens) (after : List Temp) (rest : Tokens) →
    IsVal scope before ts after rest → length rest < length ts
val_shorter scope before ts after rest i =
    let a = next_shorter i.name_next in let b = typed_shorter i.typed in let c = next_shorter i.equals.next in
    let d = expr_shorter i.tree_is.expression in let e = semicolon_shorter i.semicolon in omega arith

val_follows : (ts : Tokens) (t : Lexeme) (us : Tokens) → IsNext heads.Val ts t us → FollowsChain ts
val_follows ts t us n = follows ts heads.Val (next_head_is n) refl refl refl

pub vals_read : (scope : Scope) (end : ℕ) {ts : Tokens} {temps : List Temp} {rest : Tokens} →
    IsRun (IsBehind heads.Val (IsVal scope)) [] ts temps rest → BeginsChain rest →
    vals_at end (body_at scope []) ts ≡ Ok (body_at scope temps, rest)
unfolding vals_at
vals_read scope end i b =
    many_reads (body_at scope) (IsVal scope) (val_at end) FollowsChain (val_reads scope end)
    (val_shorter scope) heads.Val val_follows i (begins_follows b) (begins_no_val b)

pub vals_follow : (scope : Scope) (end : ℕ) {ts : Tokens} {temps : List Temp} {rest : Tokens} →
    IsRun (IsBehind heads.Val (IsVal scope)) [] ts temps rest → BeginsChain rest → FollowsChain ts
vals_follow scope end i b =
    many_fits (body_at scope) (IsVal scope) (val_at end) FollowsChain (val_reads scope end)
    (val_shorter scope) heads.Val val_follows i (begins_follows b)

-- ---- results

abbrev pub tree_sizes : List Tree → ℕ
tree_sizes [] = 0
tree_sizes (x ∷ xs) = size x + tree_sizes xs

tree_sizes-snoc : (xs : List Tree) (x : Tree) → tree_sizes (xs ++ x ∷ []) ≡ tree_sizes xs + size x
tree_sizes-snoc [] x = omega arith
tree_sizes-snoc (y ∷ xs) x = let h = tree_sizes-snoc xs x in omega arith

-- results behind temps of so many nodes
abbrev pub results_of : ℕ → List Tree → Results
results_of n xs = record { trees = xs; nodes = min 4001 (n + tree_sizes xs) }

results : List Tree → ℕ → Results
results xs n = record { trees = xs; nodes = n }

one_result : (n : ℕ) (xs : List Tree) (x : Tree) → IsLow x →
    results (xs ++ tree_or (operand_of x).tree ∷ [])
    (counted_nodes (min 4001 (n + tree_sizes xs) + (operand_of x).nodes)) ≡ results_of n (xs ++ x ∷ [])
unfolding results
one_result n xs x low =
    let nodes : min 4001 (min 4001 (n + tree_sizes xs) + min 4001 (size x)) ≡ min 4001 (n + tree_sizes (xs ++ x ∷ [])) =
    let e = tree_sizes-snoc xs x in omega arith in
    ap (λ y. results (xs ++ y ∷ []) (min 4001 (min 4001 (n + tree_sizes xs) + min 4001 (size x)))) (tree_is x low)
    ∙ ap (results (xs ++ x ∷ [])) nodes

first_nodes : (n : ℕ) (m : ℕ) → counted_nodes (min 4001 n + m) ≡ counted_nodes (min 4001 (n + 0) + m)
first_nodes n m = omega arith

single_spells : (scope : Scope) (temps : List Temp) (end word : ℕ) (ts : Tokens) →
    OnOk (Seen (results_of (sizes temps)) (λ xs rest. (x : Tree) × (xs ≡ x ∷ []) ×
    IsWholeExpr (with_temps scope temps) ts x rest)) (single_at end word (body_at scope temps) ts)
unfolding single_at results
single_spells scope temps end word ts =
    and_then (with_both (expr_spells (with_temps scope temps) end true 200 ts)
    (expr_ends (with_temps scope temps) end true 200 ts)) (λ x both.
    choose (is_high x.0) (λ e. failed) (λ e.
    let low = low_is both.0.value (sym (ap is_high both.0.same) ∙ e) in
    done (record {
      value = both.0.value ∷ [];
      same =
          ap (λ (o : Operand). results (tree_or o.tree ∷ [])
          (counted_nodes (min 4001 (sizes temps) + o.nodes))) both.0.same
          ∙ ap (results (tree_or (operand_of both.0.value).tree ∷ []))
          (first_nodes (sizes temps) (operand_of both.0.value).nodes)
          ∙ one_result (sizes temps) [] both.0.value low;
      is = (both.0.value, refl, record { expression = both.0.is; low = low; ends = minus_stops _ _ both.1 });
    })))

element_spells : (scope : Scope) (temps : List Temp) (end first reals : ℕ) →
    SpellsEach (results_of (sizes temps)) Any (IsElement (with_temps scope temps))
    (element_at end first reals (body_at scope temps))
unfolding element_at results
element_spells scope temps end first reals before any ts =
    and_then (expr_spells (with_temps scope temps) end false 200 ts) (λ x seen.
    choose (is_high x.0) (λ e. failed) (λ e.
    let low = low_is seen.value (sym (ap is_high seen.same) ∙ e) in
    done (record {
      value = before ++ seen.value ∷ [];
      same =
          ap (λ (o : Operand). results (before ++ tree_or o.tree ∷ [])
          (counted_nodes (min 4001 (sizes temps + tree_sizes before) + o.nodes))) seen.same
          ∙ one_result (sizes temps) before seen.value low;
      is = record { tree = seen.value; expression = seen.is; low = low; value = refl };
    })))

no_results : (n : ℕ) → results [] (min 4001 n) ≡ results_of n []
unfolding results
no_results n = let e : min 4001 n ≡ min 4001 (n + 0) = omega arith in ap (results []) e

pub result_spells : (scope : Scope) (temps : List Temp) (end word reals : ℕ) (ts : Tokens) → 0 < reals →
    OnOk (Seen (results_of (sizes temps)) (IsResult (with_temps scope temps) reals ts))
    (result_at end word reals (body_at scope temps) ts)
unfolding result_at tuple_at results
result_spells scope temps end word reals ts some = choose (nat_lt reals 2)
    (λ e. let lt : reals < 2 = search (rules, tests) in
    weaken (λ x seen. record {
      value = seen.value;
      same = seen.same;
      is =
          subst (λ xs. IsResult (with_temps scope temps) reals ts xs x.1) (sym seen.is.1)
          (single (omega arith) seen.is.2);
    }) (single_spells scope temps end word ts))
    (λ e. let ge : 2 ≤ reals = search (rules, tests) in
    and_then (want_spells end heads.Open ts) (λ o n.
    and_then (subst (λ r. OnOk (Seen (results_of (sizes temps)) (IsListed (IsElement (with_temps scope temps)) [] o.1))
    (listed_by (element_at end o.0.at reals (body_at scope temps)) end r o.1)) (sym (no_results (sizes temps)))
    (listed_spells (results_of (sizes temps)) Any (IsElement (with_temps scope temps))
    (element_at end o.0.at reals (body_at scope temps)) (element_spells scope temps end o.0.at reals)
    (keeps_any (IsElement (with_temps scope temps))) end [] (tt {0}) o.1)) (λ r seen.
    choose (eqb (length r.0.trees) reals)
    (λ e. let as_many : length r.0.trees ≡ reals = search (rules, tests) in
    done (record {
      value = seen.value;
      same = seen.same;
      is = tuple ge (mark n) seen.is (sym (ap (λ (r : Results). length r.trees) seen.same) ∙ as_many);
    }))
    (λ e. failed))))

-- ---- the other way

pub result_begins : {scope : Scope} {reals : ℕ} {ts : Tokens} {xs : List Tree} {rest : Tokens} →
    IsResult scope reals ts xs rest → BeginsChain ts
result_begins (single one i) = expr_begins i.expression
result_begins (tuple two o i same) = open_begins o.next

pub vals_shorter : (scope : Scope) {before : List Temp} {ts : Tokens} {temps : List Temp} {rest : Tokens} →
    IsRun (IsBehind heads.Val (IsVal scope)) before ts temps rest → length rest ≤ length ts
vals_shorter scope i = behind_run_shorter heads.Val (IsVal scope) (val_shorter scope) i

element_reads : (scope : Scope) (temps : List Temp) (end first reals : ℕ) (before : List Tree) (ts : Tokens)
    (after : List Tree) (rest : Tokens) → IsElement (with_temps scope temps) before ts after rest → Stops false rest
    → element_at end first reals (body_at scope temps) (results_of (sizes temps) before) ts
    ≡ Ok (results_of (sizes temps) after, rest)
unfolding element_at results
element_reads scope temps end first reals before ts after rest i stop =
    steps _ (expr_reads (with_temps scope temps) end false 200 ts i.tree rest i.expression stop)
    (on_false _ (low_not_high i.tree i.low)
    (ap (λ (r : Results). Ok (r, rest)) (one_result (sizes temps) before i.tree i.low
    ∙ ap (results_of (sizes temps)) (sym i.value))))

element_shorter : (scope : Scope) (before : List Tree) (ts : Tokens) (after : List Tree) (rest : Tokens) →
    IsElement scope before ts after rest → length rest < length ts
element_shorter scope before ts after rest i = expr_shorter i.expression

pub result_shorter : {scope : Scope} {reals : ℕ} {ts : Tokens} {xs : List Tree} {rest : Tokens} →
    IsResult scope reals ts xs rest → length rest < length ts
result_shorter (single one i) = expr_shorter i.expression
result_shorter {scope = scope} (tuple two o i same) =
    let a = next_shorter o.next in let b = listed_shorter (IsElement scope) (element_shorter scope) i in omega arith

pub result_reads : (scope : Scope) (temps : List Temp)
    (end word reals : ℕ) {ts : Tokens} {xs : List Tree} {rest : Tokens} →
    IsResult (with_temps scope temps) reals ts xs rest → Stops true rest
    → result_at end word reals (body_at scope temps) ts ≡ Ok (results_of (sizes temps) xs, rest)
unfolding result_at single_at tuple_at results
result_reads scope temps end word reals {ts} (single {rest = rest} {x = x} one i) stop =
    let lt : nat_lt reals 2 ≡ true = search (rules, tests, arith) in
    on_true _ lt (steps _ (expr_reads (with_temps scope temps) end true 200 ts x rest i.expression stop)
    (on_false _ (low_not_high x i.low)
    (ap (λ (r : Results). Ok (r, rest))
    (ap (results (tree_or (operand_of x).tree ∷ [])) (first_nodes (sizes temps) (operand_of x).nodes)
    ∙ one_result (sizes temps) [] x i.low))))
result_reads scope temps end word reals {ts} (tuple {us = us} {rest = rest} {xs = xs} two n i as_many) stop =
    let lt : nat_lt reals 2 ≡ false = search (rules, tests, arith) in
    on_false _ lt tuple_reads
  where
    read : listed_by (element_at end n.token.at reals (body_at scope temps)) end
        (results [] (min 4001 (sizes temps))) us ≡ Ok (results_of (sizes temps) xs, rest)
    read =
        ap (λ r. listed_by (element_at end n.token.at reals (body_at scope temps)) end r us) (no_results (sizes temps))
        ∙ listed_reads (results_of (sizes temps)) (IsElement (with_temps scope temps))
        (element_at end n.token.at reals (body_at scope temps)) (Stops false)
        (element_reads scope temps end n.token.at reals) (element_shorter (with_temps scope temps)) end
        (λ ts t us n. stops_next false n refl refl) (λ ts t us n. stops_next false n refl refl) i

    tuple_reads : tuple_at end reals (body_at scope temps) ts ≡ Ok (results_of (sizes temps) xs, rest)
    tuple_reads =
        let same : eqb (length xs) reals ≡ true = search (rules, tests) in
        steps _ (want_reads end n.next) (steps _ read (on_true _ same refl))
