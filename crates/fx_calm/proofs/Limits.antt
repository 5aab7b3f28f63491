-- What limits are of lists of things, and that a limit for a number holds for a greater one too.
use Rattle.std.proofs.Common.{◌≡◌, ℕ, suc, ◌+◌, ◌-◌, ◌<◌, ◌≤◌, Bool, true, ◌&&◌, List, [], ◌∷◌, length, take, get_or, pos, negsuc, ◌-ℤ◌, refl, sym, ap, ◌∙◌, arith}
use Rattle.std.specs.List.{list_all}
use Rattle.std.specs.Cmp.{both_ways}
use Rattle.std.proofs.lemmas.Bool.{and_parts}
use Rattle.std.proofs.lemmas.List.{get_or-take, get_or-drop, length-take, length-drop}
use Rattle.fx_rational.specs.Rational.{Rational, whole, over, plus, times, AtMost, Equal}
use Rattle.fx_rational.specs.Dyadic.{dyadic_value}
use Rattle.fx_rational.proofs.Ring.{by_quotes, quotes}
use Rattle.fx_rational.proofs.Laws.{equal_sym, le_trans, le_of_equal, ordered, gap}
use Rattle.fx_rational.proofs.Quotient.{le_of_times, whole_above}
use Rattle.fx_rational.proofs.Powers.{power_above}
use Rattle.fx_model.specs.Tree as tree
use Rattle.fx_model.specs.Tree.{Tree, at}
use Rattle.fx_model.specs.Function as function
use Rattle.fx_model.specs.Function.{Function, outputs}
use Rattle.fx_inequalities.specs.NodeConditions.{no_input}
use Rattle.fx_inequalities.specs.Accepted.{no_state}
use Rattle.fx_plan_laws.specs.Powers.{power_value, is_below_power, magnitude}
use Rattle.fx_plan_laws.proofs.Powers.{whole_value_is, below_power, test_power, power_more}
use Rattle.fx_plan_laws.specs.Linear.{are_literals_below}
use Rattle.fx_plan_laws.specs.Calm.{reach_of, output_trees, next_trees, input_reaches, input_sizes, state_sizes, literal_sizes, bounds_starts, bounds_sizes, bounds_values, bounds_errors, is_contracting}
use Rattle.fx_plan_laws.proofs.Calmness.{all_at, half_twice}
use Rattle.fx_plan_laws.proofs.Factors.{naturals_le, power_units}
use Rattle.fx_calm.specs.declared.sum.Sum.TheVariants.{States, Sizes, Adds, Values}
use Rattle.fx_calm.specs.declared.limit.Limit.{Limit}
use Rattle.fx_calm.specs.declared.limit.Limit.TheVariants.{Starts, Inputs, Literals, Sums, Errors}
use Rattle.fx_calm.specs.LimitOf.{no_tree, count_of, is_within, AreWithin}

-- ---- for a greater number
below_more : (x : Rational) (w v : ℕ) → w ≤ v → is_below_power x (pos w) ≡ true → is_below_power x (pos v) ≡ true
below_more x w v l e =
    test_power x (pos v) (le_trans (below_power {x = x} (pos w) e)
    (le_trans (le_of_equal (whole_value_is w))
    (le_trans (naturals_le (power_more {a = w} {b = v} l)) (le_of_equal (equal_sym (whole_value_is v))))))

literals_more : (t : Tree) (w v : ℕ) → w ≤ v → are_literals_below (power_value (pos w)) t ≡ true →
    are_literals_below (power_value (pos v)) t ≡ true
literals_more (tree.Literal c) w v l e = below_more (magnitude c) w v l e
literals_more (tree.Input k) w v l e = refl
literals_more (tree.State k) w v l e = refl
literals_more (tree.Temp k) w v l e = refl
literals_more (tree.Negation a) w v l e = literals_more a w v l e
literals_more (tree.Sum a b) w v l e =
    let p = and_parts _ _ e in
    let m = literals_more a w v l p.0 in
    let n = literals_more b w v l p.1 in
    (λ i. m i && n i)
literals_more (tree.Difference a b) w v l e =
    let p = and_parts _ _ e in
    let m = literals_more a w v l p.0 in
    let n = literals_more b w v l p.1 in
    (λ i. m i && n i)
literals_more (tree.Product a b) w v l e =
    let p = and_parts _ _ e in
    let m = literals_more a w v l p.0 in
    let n = literals_more b w v l p.1 in
    (λ i. m i && n i)
literals_more (tree.Quotient a b) w v l e =
    let p = and_parts _ _ e in
    let m = literals_more a w v l p.0 in
    let n = literals_more b w v l p.1 in
    (λ i. m i && n i)

units_more : (x : Rational) (f w v : ℕ) → w ≤ v → is_below_power x (pos (1 + w) -ℤ pos f) ≡ true →
    is_below_power x (pos (1 + v) -ℤ pos f) ≡ true
units_more x f w v l e =
    let a = pos (1 + w) -ℤ pos f in let b = pos (1 + v) -ℤ pos f in
    test_power x b (le_trans (below_power {x = x} a e)
    (le_of_times (power_above f)
    (le_trans (le_of_equal (power_units a (1 + w) f refl))
    (le_trans (naturals_le (power_more {a = 1 + w} {b = 1 + v} (omega (arith, l))))
    (le_of_equal (equal_sym (power_units b (1 + v) f refl)))))))

pub within_more : (fn : Function) (limit : Limit) (i w v : ℕ) → w ≤ v → is_within fn limit i w ≡ true →
    is_within fn limit i v ≡ true
within_more fn Starts i w v l e = below_more _ w v l e
within_more fn Inputs i w v l e = below_more _ w v l e
within_more fn Literals i w v l e = literals_more (at no_tree fn.results i) w v l e
within_more fn (Sums sum) i w v l e = below_more _ w v l e
within_more fn (Errors f) i w v l e = units_more _ f w v l e

-- ---- lists
all_from : {A : Type 0} (p : A → Bool) (xs : List A) (d : A) → ((i : ℕ) → i < length xs → p (get_or xs i d) ≡ true) →
    list_all p xs ≡ true
all_from p [] d h = refl
all_from p (x ∷ xs) d h =
    let own = h 0 (omega arith) in
    let more = all_from p xs d (λ i l. h (suc i) (omega (arith, l))) in
    (λ j. own j && more j)

next_all : (p : Tree → Bool) (fn : Function) →
    ((i : ℕ) → i < length fn.results - outputs fn → p (at no_tree fn.results (outputs fn + i)) ≡ true) →
    list_all p (next_trees fn) ≡ true
next_all p fn h = all_from p (next_trees fn) no_tree (λ i l. ap p (get_or-drop (outputs fn) fn.results i no_tree)
    ∙ h i (let n = length-drop (outputs fn) fn.results in omega (arith, n, l)))

next_at : (p : Tree → Bool) (fn : Function) → list_all p (next_trees fn) ≡ true → (i : ℕ) →
    i < length fn.results - outputs fn → p (at no_tree fn.results (outputs fn + i)) ≡ true
next_at p fn e i l = ap p (sym (get_or-drop (outputs fn) fn.results i no_tree))
    ∙ all_at p (next_trees fn) i no_tree e (let n = length-drop (outputs fn) fn.results in omega (arith, n, l))

from_zero : (p : Tree → Bool) (xs : List Tree) (i : ℕ) → p (at no_tree xs (0 + i)) ≡ p (at no_tree xs i)
from_zero p xs i = let e : 0 + i ≡ i = omega arith in ap (λ (k : ℕ). p (at no_tree xs k)) e

result_all : (p : Tree → Bool) (fn : Function) →
    ((i : ℕ) → i < length fn.results → p (at no_tree fn.results (0 + i)) ≡ true) → list_all p fn.results ≡ true
result_all p fn h = all_from p fn.results no_tree (λ i l. sym (from_zero p fn.results i) ∙ h i l)

result_each : (p : Tree → Bool) (fn : Function) → list_all p fn.results ≡ true → (i : ℕ) → i < length fn.results →
    p (at no_tree fn.results (0 + i)) ≡ true
result_each p fn e i l = from_zero p fn.results i ∙ all_at p fn.results i no_tree e l

front_long : (n : ℕ) (xs : List Tree) → n ≤ length xs → length (take n xs) ≡ n
front_long n xs l = let e = length-take n xs in omega (arith, e, l)

output_all : (p : Tree → Bool) (fn : Function) → outputs fn ≤ length fn.results →
    ((i : ℕ) → i < outputs fn → p (at no_tree fn.results (0 + i)) ≡ true) → list_all p (output_trees fn) ≡ true
output_all p fn enough h =
    all_from p (output_trees fn) no_tree (λ i l. (let n = front_long (outputs fn) fn.results enough in
    let lt : i < outputs fn = omega (arith, n, l) in
    ap p (get_or-take (outputs fn) fn.results i no_tree lt) ∙ sym (from_zero p fn.results i) ∙ h i lt))

output_each : (p : Tree → Bool) (fn : Function) → outputs fn ≤ length fn.results → list_all p (output_trees fn) ≡ true →
    (i : ℕ) → i < outputs fn → p (at no_tree fn.results (0 + i)) ≡ true
output_each p fn enough e i l =
    from_zero p fn.results i ∙ ap p (sym (get_or-take (outputs fn) fn.results i no_tree l))
    ∙ all_at p (output_trees fn) i no_tree e (let n = front_long (outputs fn) fn.results enough in
    omega (arith, n, l))

-- ---- the definition's conditions, both ways
abbrev pub AreAllWithin : Function → Limit → ℕ → Type 0
AreAllWithin fn limit w = AreWithin fn limit (count_of fn limit) w

pub starts_from : (fn : Function) (w : ℕ) → AreAllWithin fn Starts w → AreAllWithin fn (Sums Adds) w →
    bounds_starts fn w ≡ true
starts_from fn w h g =
    let p = all_from (λ (s : function.State). is_below_power (magnitude s.start) (pos w)) fn.states no_state h in
    let q = next_all (λ (t : Tree). is_below_power (plus (input_reaches fn t) (literal_sizes t)) (pos w)) fn g in
    (λ i. p i && q i)

pub starts_give : (fn : Function) (w : ℕ) → bounds_starts fn w ≡ true →
    AreAllWithin fn Starts w × AreAllWithin fn (Sums Adds) w
starts_give fn w e =
    let p = and_parts _ _ e in (
      (λ i l. all_at (λ (s : function.State). is_below_power (magnitude s.start) (pos w)) fn.states i no_state p.0 l),
      next_at (λ (t : Tree). is_below_power (plus (input_reaches fn t) (literal_sizes t)) (pos w)) fn p.1,
    )

pub sizes_from : (fn : Function) (w : ℕ) → AreAllWithin fn (Sums Sizes) w → bounds_sizes fn w ≡ true
sizes_from fn w h = result_all (λ (t : Tree). is_below_power (plus (input_sizes t) (state_sizes t)) (pos w)) fn h

pub sizes_give : (fn : Function) (w : ℕ) → bounds_sizes fn w ≡ true → AreAllWithin fn (Sums Sizes) w
sizes_give fn w e = result_each (λ (t : Tree). is_below_power (plus (input_sizes t) (state_sizes t)) (pos w)) fn e

-- m is one more than the number w
pub values_from : (fn : Function) (q w m : ℕ) → outputs fn ≤ length fn.results → m - 1 ≡ w → AreAllWithin fn Inputs w →
    AreAllWithin fn Literals w → AreAllWithin fn (Sums (Values (q + 2))) w → bounds_values fn q m ≡ true
values_from fn q w m enough is h g k =
    let p = all_from (λ (i : function.Input). is_below_power (plus (reach_of i) i.err) (pos w)) fn.inputs no_input h in
    let r = all_from (λ (t : Tree). are_literals_below (power_value (pos w)) t) fn.results no_tree g in
    let s =
    output_all (λ (t : Tree). is_below_power
    (plus (times (state_sizes t) (power_value (pos (q + 2)))) (plus (input_reaches fn t) (literal_sizes t)))
    (pos w)) fn enough k in
    ap (λ (n : ℕ). list_all (λ (i : function.Input). is_below_power (plus (reach_of i) i.err) (pos n)) fn.inputs &&
    list_all (λ (t : Tree). are_literals_below (power_value (pos n)) t) fn.results &&
    list_all (λ (t : Tree). is_below_power
    (plus (times (state_sizes t) (power_value (pos (q + 2)))) (plus (input_reaches fn t) (literal_sizes t)))
    (pos n)) (output_trees fn)) is
    ∙ (λ i. p i && r i && s i)

pub values_give : (fn : Function) (q w m : ℕ) → outputs fn ≤ length fn.results → m - 1 ≡ w →
    bounds_values fn q m ≡ true → AreAllWithin fn Inputs w × AreAllWithin fn Literals w ×
    AreAllWithin fn (Sums (Values (q + 2))) w
values_give fn q w m enough is e =
    let moved =
    ap (λ (n : ℕ). list_all (λ (i : function.Input). is_below_power (plus (reach_of i) i.err) (pos n)) fn.inputs &&
    list_all (λ (t : Tree). are_literals_below (power_value (pos n)) t) fn.results &&
    list_all (λ (t : Tree). is_below_power
    (plus (times (state_sizes t) (power_value (pos (q + 2)))) (plus (input_reaches fn t) (literal_sizes t)))
    (pos n)) (output_trees fn)) (sym is) ∙ e in
    let p = and_parts _ _ moved in let r = and_parts _ _ p.0 in (
      (λ i l. all_at (λ (x : function.Input). is_below_power (plus (reach_of x) x.err)
          (pos w)) fn.inputs i no_input r.0 l),
      (λ i l. all_at (λ (t : Tree). are_literals_below (power_value (pos w)) t) fn.results i no_tree r.1 l),
      output_each (λ (t : Tree). is_below_power
          (plus (times (state_sizes t) (power_value (pos (q + 2)))) (plus (input_reaches fn t) (literal_sizes t)))
          (pos w)) fn enough p.1,
    )

pub errors_from : (fn : Function) (f w : ℕ) → AreAllWithin fn (Errors f) w → bounds_errors fn (pos (1 + w) -ℤ pos f) ≡ true
errors_from fn f w h =
    all_from (λ (i : function.Input). is_below_power (plus i.err i.err) (pos (1 + w) -ℤ pos f)) fn.inputs no_input h

pub errors_give : (fn : Function) (f w : ℕ) → bounds_errors fn (pos (1 + w) -ℤ pos f) ≡ true → AreAllWithin fn (Errors f) w
errors_give fn f w e =
    λ i l. all_at (λ (x : function.Input). is_below_power (plus x.err x.err)
    (pos (1 + w) -ℤ pos f)) fn.inputs i no_input e l

-- ---- at most a half
two_halves : Equal (plus (power_value (negsuc 0)) (power_value (negsuc 0))) (whole (pos 1))
unfolding power_value dyadic_value plus over
two_halves = record { equal = refl }

contracting_test : (x : Rational) → is_below_power x (negsuc 0) ≡ is_below_power (plus x x) (pos 0)
contracting_test x =
    both_ways (is_below_power x (negsuc 0)) (is_below_power (plus x x) (pos 0))
    (λ e. test_power (plus x x) (pos 0)
    (le_trans (half_twice (below_power {x = x} (negsuc 0) e)) (le_of_equal (equal_sym (whole_value_is 0)))))
    (λ e. test_power x (negsuc 0)
    (from_twice x (power_value (negsuc 0))
    (le_trans (below_power {x = plus x x} (pos 0) e)
    (le_trans (le_of_equal (whole_value_is 0)) (le_of_equal (equal_sym two_halves))))))
  where
    from_twice : (x h : Rational) → AtMost (plus x x) (plus h h) → AtMost x h
    from_twice x h l =
        le_of_times (whole_above 2 (omega arith))
        (ordered (gap l) (by_quotes {ρ = x ∷ h ∷ []} (search quotes depth 20) (search quotes depth 20) refl))

pub contracting_from : (fn : Function) → AreAllWithin fn (Sums States) 0 → list_all is_contracting (next_trees fn) ≡ true
contracting_from fn h =
    next_all is_contracting fn (λ i l. contracting_test (state_sizes (at no_tree fn.results (outputs fn + i))) ∙ h i l)

pub contracting_give : (fn : Function) → list_all is_contracting (next_trees fn) ≡ true → AreAllWithin fn (Sums States) 0
contracting_give fn e = λ i l. sym (contracting_test (state_sizes (at no_tree fn.results (outputs fn + i))))
    ∙ next_at is_contracting fn e i l
