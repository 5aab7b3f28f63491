-- A calm function's bounds are limited, its nodes hold no quotient, and its copies have the bounds of its results.
use Rattle.std.proofs.Common.{◌≡◌, ℕ, zero, suc, ◌+◌, ◌-◌, ◌^◌, ◌<◌, ◌≤◌, true, List, [], ◌∷◌, ◌++◌, length, map, take, drop, get_or, ◌⊎◌, ⊎_elim, pos, refl, sym, ap, subst, ◌∙◌, arith, length-append, pow_pos}
use Rattle.std.specs.Prelude.{All, Contains}
use Rattle.std.proofs.lemmas.Bool.{and_parts}
use Rattle.std.proofs.lemmas.List.{length-map, get_or-map, length-take, length-drop, get_or-take, get_or-drop, get_or-append-add}
use Rattle.std.proofs.lemmas.List.Elements.{All-nil, All-cons, All-append, All-map}
use Rattle.fx_rational.specs.Rational.{Rational, whole, plus, times, AtMost, is_at_most}
use Rattle.fx_rational.proofs.Laws.{le_trans, le_of_equal, times_le}
use Rattle.fx_rational.proofs.Tests.{at_most_true}
use Rattle.fx_rational.proofs.Quotient.{above_nonneg}
use Rattle.fx_rational.proofs.Powers.{power, power_above}
use Rattle.fx_model.specs.Tree as tree
use Rattle.fx_model.specs.Tree.{Tree, at}
use Rattle.fx_model.specs.Function as function
use Rattle.fx_model.specs.Function.{Function, outputs}
use Rattle.fx_model.specs.Nodes.{Node, Input, State, Const, Neg, Add, Sub, Mul, Copy, flat, inputs_from, states_from, copies_of, nodes_after, nodes_of}
use Rattle.fx_model.specs.Valid.{AllReferBelow}
use Rattle.fx_model.specs.LawfulProgram.{widths}
use Rattle.fx_model.proofs.Counted.{inputs_length, states_length}
use Rattle.fx_model.proofs.Widths.{IsWordWidth, width_of}
use Rattle.fx_inequalities.specs.NodeConditions.{no_input}
use Rattle.fx_flat.proofs.Growth.{result_refers}
use Rattle.fx_plan_laws.specs.Powers.{magnitude, power_value}
use Rattle.fx_plan_laws.proofs.Powers.{power_more, whole_value_is}
use Rattle.fx_plan_laws.proofs.Values.{magnitude_nonneg}
use Rattle.fx_plan_laws.proofs.Inputs.{error_nonnegative}
use Rattle.fx_plan_laws.specs.Bounds.{Bound, no_bound, state_bound, input_bound, const_bound, sum_bound}
use Rattle.fx_plan_laws.specs.Calm.{Numbers, numbers_of, input_reaches, literal_sizes, state_sizes, IsCalm}
use Rattle.fx_plan_laws.specs.Linear.{is_scaled, is_linear, terms_of, total, state_size, are_literals_below}
use Rattle.fx_plan_laws.proofs.Calmness.{y, no_temps, room, input_roomy, whole_width, result_linear, result_literals, result_sizes, next_adds, next_half, output_values}
use Rattle.fx_plan_laws.proofs.Factors.{HasRoom, IsRoomyInput, powers, box_is, input_factor, input_units, naturals_order}
use Rattle.fx_plan_laws.proofs.Rounded.{units_least}
use Rattle.fx_plan_laws.proofs.Terms.{IsBounded, tree_bounded}
use Rattle.fx_plan_laws.proofs.Totals.{next_range_few, next_error_few, output_range_few, output_error_few}
use Rattle.fx_plan_laws.proofs.TreeBound.{tree_bound}
use Rattle.fx_plan_laws.specs.CalmPlan.{bounds_after, bounds_of}
use Rattle.fx_plan_laws.specs.CalmLaw.{IsNarrowFunction}
use Rattle.fx_plan_laws.proofs.Flattened.{IsLimited, AreLimited, EachLimited, HasAllBounds, bounds_from, first_bounds, first_built, first_long, first_variables, results_built}
use Rattle.fx_plan_laws.proofs.NodeClaims.{IsSpacious}
use Rattle.fx_plan_laws.proofs.NodeFaults.{IsUndivided}

-- ---- no quotients
-- n is a node of a linear tree, a variable or a copy
abbrev AreUndivided : List Node → Type 0
AreUndivided nodes = All IsUndivided nodes

operation_whole : (xs : List Node) (node : Node) → AreUndivided xs → IsUndivided node → AreUndivided (xs ++ node ∷ [])
operation_whole xs node h w =
    All-append IsUndivided xs (node ∷ []) h (All-cons IsUndivided node [] w (All-nil IsUndivided))

flat_whole : (c : Numbers) (is : List function.Input) (i n : ℕ) (t : Tree) → AreLimited c is t →
    AreUndivided (flat i [] n t).list
flat_whole c is i n (tree.Literal x) l = All-cons IsUndivided (Const x) [] tt (All-nil IsUndivided)
flat_whole c is i n (tree.Input k) l = All-nil IsUndivided
flat_whole c is i n (tree.State k) l = All-nil IsUndivided
flat_whole c is i n (tree.Temp k) l = absurd l
flat_whole c is i n (tree.Negation a) l =
    operation_whole (flat i [] n a).list (Neg (flat i [] n a).root) (flat_whole c is i n a l.1) tt
flat_whole c is i n (tree.Sum a b) l = let x = flat i [] n a in let m = n + length x.list in
    operation_whole (x.list ++ (flat i [] m b).list) (Add x.root (flat i [] m b).root)
    (All-append IsUndivided x.list (flat i [] m b).list (flat_whole c is i n a l.1) (flat_whole c is i m b l.2)) tt
flat_whole c is i n (tree.Difference a b) l = let x = flat i [] n a in let m = n + length x.list in
    operation_whole (x.list ++ (flat i [] m b).list) (Sub x.root (flat i [] m b).root)
    (All-append IsUndivided x.list (flat i [] m b).list (flat_whole c is i n a l.1) (flat_whole c is i m b l.2)) tt
flat_whole c is i n (tree.Product a b) l = let x = flat i [] n a in let m = n + length x.list in
    operation_whole (x.list ++ (flat i [] m b).list) (Mul x.root (flat i [] m b).root)
    (All-append IsUndivided x.list (flat i [] m b).list (flat_whole c is i n a l.1) (flat_whole c is i m b l.2)) tt
flat_whole c is i n (tree.Quotient a b) l = absurd l

copies_whole : (roots : List ℕ) → AreUndivided (copies_of roots)
copies_whole [] = All-nil IsUndivided
copies_whole (k ∷ roots) = All-cons IsUndivided (Copy k) (copies_of roots) tt (copies_whole roots)

inputs_whole : (k m : ℕ) → AreUndivided (inputs_from k m)
inputs_whole k zero = All-nil IsUndivided
inputs_whole k (suc m) = All-cons IsUndivided (Input k) (inputs_from (k + 1) m) tt (inputs_whole (k + 1) m)

states_whole : (k m : ℕ) → AreUndivided (states_from k m)
states_whole k zero = All-nil IsUndivided
states_whole k (suc m) = All-cons IsUndivided (State k) (states_from (k + 1) m) tt (states_whole (k + 1) m)

after_whole : (c : Numbers) (is : List function.Input) (i s : ℕ) (ts : List Tree) (roots : List ℕ) (ns : List Node) →
    AreUndivided ns → EachLimited c is i s ts → AreUndivided (nodes_after i [] ts [] roots ns)
after_whole c is i s [] roots ns h l = All-append IsUndivided ns (copies_of roots) h (copies_whole roots)
after_whole c is i s (t ∷ ts) roots ns h l =
    let x = flat i [] (length ns) t in
    after_whole c is i s ts (roots ++ x.root ∷ []) (ns ++ x.list)
    (All-append IsUndivided ns x.list h (flat_whole c is i (length ns) t l.0)) l.1

-- ---- limited trees
module _ (c : Numbers) (y : ℕ) (is : List function.Input) (room : HasRoom c y) where
  literal_limited : (x : Rational) → is_at_most (magnitude x) (power_value (pos (c.m - 1))) ≡ true →
      IsLimited c (const_bound c.f x)
  literal_limited x e =
      let small =
      le_trans (at_most_true (magnitude x) (power_value (pos (c.m - 1))) e)
      (le_of_equal (whole_value_is (c.m - 1))) in
      let few =
      units_least c.f (magnitude x) (magnitude_nonneg x) (2 ^ ((c.m - 1) + c.f))
      (le_trans (times_le small (above_nonneg (power_above c.f))) (le_of_equal (powers (c.m - 1) c.f))) in
      let m = power_more {a = (c.m - 1) + c.f} {b = c.m + c.f} (omega arith) in
      record { r = omega (arith, few, m); e = pow_pos (c.m + c.f) }

  factors_limited : (a b : Tree) → is_scaled a b ≡ true → are_literals_below (power_value (pos (c.m - 1))) a ≡ true →
      are_literals_below (power_value (pos (c.m - 1))) b ≡ true → AreLimited c is a × AreLimited c is b
  factors_limited (tree.Literal x) (tree.Input j) e la lb = (literal_limited x la, tt)
  factors_limited (tree.Literal x) (tree.State j) e la lb = (literal_limited x la, tt)
  factors_limited (tree.Input j) (tree.Literal x) e la lb = (tt, literal_limited x lb)
  factors_limited (tree.State j) (tree.Literal x) e la lb = (tt, literal_limited x lb)
  factors_limited a b e la lb = absurd cc

  left_part : (a b : Bound) → IsLimited c (sum_bound a b) → IsLimited c a
  left_part a b l = let p = l.r in let q = l.e in record { r = omega (arith, p); e = omega (arith, q) }

  right_part : (a b : Bound) → IsLimited c (sum_bound a b) → IsLimited c b
  right_part a b l = let p = l.r in let q = l.e in record { r = omega (arith, p); e = omega (arith, q) }

  pub tree_limited : (t : Tree) → is_linear t ≡ true → are_literals_below (power_value (pos (c.m - 1))) t ≡ true →
      IsLimited c (tree_bound c is t) → AreLimited c is t
  tree_limited (tree.Literal x) e b l = l
  tree_limited (tree.Input k) e b l = tt
  tree_limited (tree.State k) e b l = tt
  tree_limited (tree.Temp k) e b l = absurd cc
  tree_limited (tree.Negation a) e b l = (l, tree_limited a e b l)
  tree_limited (tree.Sum a d) e b l = let p = and_parts _ _ e in let q = and_parts _ _ b in (
    l,
    tree_limited a p.0 q.0 (left_part (tree_bound c is a) (tree_bound c is d) l),
    tree_limited d p.1 q.1 (right_part (tree_bound c is a) (tree_bound c is d) l),
  )
  tree_limited (tree.Difference a d) e b l = let p = and_parts _ _ e in let q = and_parts _ _ b in (
    l,
    tree_limited a p.0 q.0 (left_part (tree_bound c is a) (tree_bound c is d) l),
    tree_limited d p.1 q.1 (right_part (tree_bound c is a) (tree_bound c is d) l),
  )
  tree_limited (tree.Product a d) e b l =
      let q = and_parts _ _ b in let f = factors_limited a d e q.0 q.1 in (l, f.0, f.1)
  tree_limited (tree.Quotient a d) e b l = absurd cc

  -- 2^(a + p + 5 + y) units are at most 2^m
  pub error_limit : {e k : ℕ} → e ≤ 2 ^ k → k ≤ c.m + c.f → e ≤ 2 ^ (c.m + c.f)
  error_limit {e} {k} h l = let m = power_more {a = k} {b = c.m + c.f} l in omega (arith, h, m)

  pub state_limited : IsLimited c (state_bound c)
  state_limited = let s = room.states in let e = room.errors in let b = box_is c y room in
      record { r = power_more (omega (arith, s)); e = power_more (omega (arith, e, b)) }

  pub input_limited : (i : function.Input) → IsRoomyInput c i → IsLimited c (input_bound c.f i)
  input_limited i h =
      let f = input_factor c y i room h in let e = room.errors in
      let r = naturals_order (le_trans f.few (le_of_equal (powers (c.m - 1) c.f))) in
      record { r = error_limit r (omega arith); e = error_limit {k = y} (input_units c y i room h) (omega (arith, e)) }

-- ---- single elements
each_limited : (c : Numbers) (is : List function.Input) (i s : ℕ) (ts : List Tree) →
    ((k : ℕ) (d : Tree) → k < length ts → AreLimited c is (get_or ts k d)) → EachLimited c is i s ts
each_limited c is i s [] h = tt
each_limited c is i s (t ∷ ts) h =
    (h 0 t (omega arith), each_limited c is i s ts (λ k d lt. h (suc k) d (omega (arith, lt))))

-- elements of the front and of the rest
take_at : {A : Type 0} (m : ℕ) (xs : List A) (k : ℕ) (d : A) → k < m → k < length xs →
    (k < length (take m xs)) × (get_or (take m xs) k d ≡ get_or xs k d)
take_at m xs k d p q = (let l = length-take m xs in omega (arith, l, p, q), get_or-take m xs k d p)

drop_at : {A : Type 0} (m : ℕ) (xs : List A) (k : ℕ) (d : A) → m + k < length xs →
    (k < length (drop m xs)) × (get_or (drop m xs) k d ≡ get_or xs (m + k) d)
drop_at m xs k d p = (let l = length-drop m xs in omega (arith, l, p), get_or-drop m xs k d)

before_or_behind : (k m n : ℕ) → k < n → (k < m) ⊎ (m + (k - m) ≡ k)
before_or_behind k m n l = grind (arith, l)

-- ---- a calm function at a width
module _ (n : ℕ) (fn : Function) (some_width : Contains widths n) (narrow : IsNarrowFunction fn)
    (calm : IsCalm n fn) where
  pub width : IsWordWidth n
  width = width_of n some_width

  abbrev pub c : Numbers
  c = numbers_of n fn

  -- what inputs' errors come to, in units
  abbrev pub u : ℕ
  u = y n fn width calm

  pub spare : HasRoom c u
  spare = room n fn width calm

  pub space : IsSpacious n c
  space =
      let w = spare.width in let p = spare.point in let s = spare.states in
      record { width = whole_width n fn width calm; most = w; point = omega (arith, w, s); some = omega (arith, p) }

  pub roomy : (k : ℕ) → k < length fn.inputs → IsRoomyInput c (at no_input fn.inputs k)
  roomy k lt = input_roomy n fn width calm k lt (error_nonnegative fn.inputs k no_input narrow.lawful.inputs lt)

  pub refer : AllReferBelow (length fn.inputs) (length fn.states) 0 fn.results
  refer =
      let t = no_temps n fn width calm in
      subst (λ (m : ℕ). AllReferBelow (length fn.inputs) (length fn.states) m fn.results)
      (ap length t) narrow.lawful.valid.results

  bounded : (k : ℕ) (d : Tree) → k < length fn.results →
      IsBounded c u fn.inputs (terms_of (get_or fn.results k d)) (tree_bound c fn.inputs (get_or fn.results k d))
  bounded k d lt =
      tree_bounded c u fn.inputs spare roomy (length fn.inputs) (length fn.states) 0 (get_or fn.results k d) refl
      (result_linear n fn width calm k d lt).0
      (result_refers (length fn.inputs) (length fn.states) 0 k fn.results d refer lt)
      (result_literals n fn width calm k d lt)

  some_results : length fn.results ≡ outputs fn + length fn.states
  some_results = narrow.lawful.valid.all_results

  -- a next state keeps its boxes
  pub next_few : (k : ℕ) (d : Tree) → k < length fn.states →
      (let b = tree_bound c fn.inputs (get_or fn.results (outputs fn + k) d) in
      (b.r ≤ 2 ^ (c.q + 2 + c.f)) × (b.e ≤ 2 ^ (c.p + 4 + u)))
  next_few k d lt =
      let long = some_results in let lt_all : outputs fn + k < length fn.results = omega (arith, long, lt) in
      let i = drop_at (outputs fn) fn.results k d lt_all in let t = get_or fn.results (outputs fn + k) d in
      let short = (result_linear n fn width calm (outputs fn + k) d lt_all).1 in
      let all = bounded (outputs fn + k) d lt_all in
      let sizes = result_sizes n fn width calm (outputs fn + k) d lt_all in
      let half =
      subst (λ (t : Tree). AtMost (plus (total state_size (terms_of t)) (total state_size (terms_of t)))
      (whole (pos 1))) i.1 (next_half n fn width calm k d i.0) in (
        next_range_few c u fn.inputs t (tree_bound c fn.inputs t) spare short all sizes half
            (subst (λ (t : Tree). AtMost (plus (input_reaches fn t) (literal_sizes t)) (power c.q)) i.1
            (next_adds n fn width calm k d i.0)),
        next_error_few c u fn.inputs t (tree_bound c fn.inputs t) spare short all sizes half,
      )

  -- an output's bounds
  pub output_range : (k : ℕ) (d : Tree) → k < outputs fn →
      (tree_bound c fn.inputs (get_or fn.results k d)).r ≤ 2 ^ (c.m + c.f)
  output_range k d lt =
      let long = some_results in let lt_all : k < length fn.results = omega (arith, long, lt) in
      let i = take_at (outputs fn) fn.results k d lt lt_all in let t = get_or fn.results k d in
      output_range_few c u fn.inputs t (tree_bound c fn.inputs t) spare (result_linear n fn width calm k d lt_all).1
      (bounded k d lt_all) (result_sizes n fn width calm k d lt_all)
      (subst (λ (t : Tree). AtMost
      (plus (times (state_sizes t) (power (c.q + 2))) (plus (input_reaches fn t) (literal_sizes t)))
      (power (c.m - 1))) i.1 (output_values n fn width calm k d i.0))

  pub output_error : (k : ℕ) (d : Tree) → k < outputs fn →
      (tree_bound c fn.inputs (get_or fn.results k d)).e ≤ 2 ^ (c.a + c.p + 5 + u)
  output_error k d lt =
      let long = some_results in let lt_all : k < length fn.results = omega (arith, long, lt) in
      let t = get_or fn.results k d in
      output_error_few c u fn.inputs t (tree_bound c fn.inputs t) spare (result_linear n fn width calm k d lt_all).1
      (bounded k d lt_all) (result_sizes n fn width calm k d lt_all)

  -- ---- all are limited
  pub result_limited : (k : ℕ) (d : Tree) → k < length fn.results →
      IsLimited c (tree_bound c fn.inputs (get_or fn.results k d))
  result_limited k d lt = ⊎_elim output next (before_or_behind k (outputs fn) (length fn.results) lt)
    where
      output : k < outputs fn → IsLimited c (tree_bound c fn.inputs (get_or fn.results k d))
      output l =
          let e = spare.errors in
          record {
            r = output_range k d l;
            e = error_limit c u fn.inputs spare {k = c.a + c.p + 5 + u} (output_error k d l) e;
          }

      next : outputs fn + (k - outputs fn) ≡ k → IsLimited c (tree_bound c fn.inputs (get_or fn.results k d))
      next same =
          let long = some_results in let j = k - outputs fn in
          let l : j < length fn.states = omega (arith, same, long, lt) in
          let s = spare.states in let e = spare.errors in
          subst (λ (m : ℕ). IsLimited c (tree_bound c fn.inputs (get_or fn.results m d))) same
          (record {
            r = error_limit c u fn.inputs spare {k = c.q + 2 + c.f} (next_few j d l).0 (omega (arith, s));
            e = error_limit c u fn.inputs spare {k = c.p + 4 + u} (next_few j d l).1 (omega (arith, e));
          })

  each : EachLimited c fn.inputs (length fn.inputs) (length fn.states) fn.results
  each =
      each_limited c fn.inputs (length fn.inputs) (length fn.states) fn.results
      (λ k d lt. tree_limited c u fn.inputs spare (get_or fn.results k d) (result_linear n fn width calm k d lt).0
      (result_literals n fn width calm k d lt) (result_limited k d lt))

  abbrev variables : List Node
  variables = inputs_from 0 (length fn.inputs) ++ states_from 0 (length fn.states)

  pub nodes_are : nodes_of fn ≡ nodes_after (length fn.inputs) [] fn.results [] [] variables
  nodes_are =
      ap (λ (ts : List function.Temp). nodes_after (length fn.inputs) ts fn.results [] [] variables)
      (no_temps n fn width calm)

  pub whole_nodes : All IsUndivided (nodes_of fn)
  whole_nodes =
      subst (All IsUndivided) (sym nodes_are)
      (after_whole c fn.inputs (length fn.inputs) (length fn.states) fn.results [] variables
      (All-append IsUndivided (inputs_from 0 (length fn.inputs)) (states_from 0 (length fn.states))
      (inputs_whole 0 (length fn.inputs)) (states_whole 0 (length fn.states))) each)

  variables_long : length variables ≡ length fn.inputs + length fn.states
  variables_long =
      let a = inputs_length 0 (length fn.inputs) in
      let b = states_length 0 (length fn.states) in
      length-append (inputs_from 0 (length fn.inputs)) (states_from 0 (length fn.states)) ∙ omega (arith, a, b)

  pub built : HasAllBounds c fn.inputs (length fn.inputs) (length fn.states)
      (nodes_after (length fn.inputs) [] fn.results [] [] variables)
      (first_bounds c fn.inputs (length fn.inputs) (length fn.states)) [] fn.results
  built =
      let l = first_long c fn.inputs (length fn.inputs) (length fn.states) in let v = variables_long in
      results_built c fn.inputs (length fn.inputs) (length fn.states) fn.results [] variables
      (first_bounds c fn.inputs (length fn.inputs) (length fn.states)) []
      (first_built c fn.inputs (length fn.inputs) (length fn.states)) (omega (arith, l, v))
      (first_variables c fn.inputs (length fn.inputs) (length fn.states)) refer each tt

  abbrev pub bs : List Bound
  bs = bounds_of c fn

  -- those before the copies
  abbrev pub front : List Bound
  front = first_bounds c fn.inputs (length fn.inputs) (length fn.states) ++ built.front

  pub bounds_are : bs ≡ front ++ map (tree_bound c fn.inputs) fn.results
  bounds_are = ap (λ (ns : List Node). bounds_after c fn.inputs ns []) nodes_are ∙ built.grown

  -- the copy of result k
  pub copy_bound : (k : ℕ) (d : Tree) → k < length fn.results →
      at no_bound bs (length front + k) ≡ tree_bound c fn.inputs (get_or fn.results k d)
  copy_bound k d lt = ap (λ (zs : List Bound). at no_bound zs (length front + k)) bounds_are
      ∙ get_or-append-add front (map (tree_bound c fn.inputs) fn.results) k no_bound
      ∙ get_or-map (tree_bound c fn.inputs) fn.results k d no_bound lt

  pub bounds_long : length bs ≡ length front + length fn.results
  bounds_long = ap length bounds_are ∙ length-append front (map (tree_bound c fn.inputs) fn.results)
      ∙ ap (λ (k : ℕ). length front + k) (length-map fn.results (tree_bound c fn.inputs))

  pub front_long : length fn.inputs + length fn.states ≤ length front
  front_long =
      let l = first_long c fn.inputs (length fn.inputs) (length fn.states) in
      let a = length-append (first_bounds c fn.inputs (length fn.inputs) (length fn.states)) built.front in
      omega (arith, l, a)

  from_all : (f : ℕ → Bound) (k m : ℕ) → ((j : ℕ) → k ≤ j → j < k + m → IsLimited c (f j)) →
      All (IsLimited c) (bounds_from c fn.inputs (length fn.inputs) (length fn.states) f k m)
  from_all f k zero h = All-nil (IsLimited c)
  from_all f k (suc m) h =
      All-cons (IsLimited c) (f k) (bounds_from c fn.inputs (length fn.inputs) (length fn.states) f (k + 1) m)
      (h k (omega arith) (omega arith)) (from_all f (k + 1) m (λ j a b. h j (omega (arith, a)) (omega (arith, b))))

  all_limited : All (IsLimited c) bs
  all_limited =
      let i = length fn.inputs in let s = length fn.states in
      subst (All (IsLimited c)) (sym bounds_are)
      (All-append (IsLimited c) front (map (tree_bound c fn.inputs) fn.results)
      (All-append (IsLimited c) (first_bounds c fn.inputs i s) built.front
      (All-append (IsLimited c) (bounds_from c fn.inputs i s (λ j. input_bound c.f (at no_input fn.inputs j)) 0 i)
      (bounds_from c fn.inputs i s (λ j. state_bound c) 0 s)
      (from_all (λ j. input_bound c.f (at no_input fn.inputs j)) 0 i
      (λ j a b. input_limited c u fn.inputs spare (at no_input fn.inputs j) (roomy j (omega (arith, b)))))
      (from_all (λ j. state_bound c) 0 s (λ j a b. state_limited c u fn.inputs spare)))
      built.limited)
      (All-map (IsLimited c) (tree_bound c fn.inputs) fn.results (λ k d lt. result_limited k d lt)))

  pub limited : (a : ℕ) → a < length bs → IsLimited c (at no_bound bs a)
  limited a lt = all_limited a no_bound lt
