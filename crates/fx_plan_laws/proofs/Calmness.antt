-- What a calm function's test says, one by one.
use Rattle.std.proofs.Common.{◌≡◌, ℕ, ◌+◌, ◌-◌, ◌<◌, ◌≤◌, max, nat_le, Bool, true, false, ◌&&◌, if◌then◌else◌, List, [], ◌∷◌, length, get_or, int_le, pos, negsuc, ◌+ℤ◌, ◌-ℤ◌, ◌≤ℤ◌, refl, arith}
use Rattle.std.specs.List.{list_all}
use Rattle.std.proofs.lemmas.Int.{ints}
use Rattle.std.proofs.lemmas.Bool.{and_parts}
use Rattle.std.proofs.lemmas.List.Sums.{AllPass-from_list_all}
use Rattle.fx_rational.specs.Rational.{Rational, whole, over, plus, times, AtMost, Equal, is_at_most}
use Rattle.fx_rational.specs.Dyadic.{dyadic_value}
use Rattle.fx_rational.proofs.Ring.{by_quotes, quotes}
use Rattle.fx_rational.proofs.Laws.{equal_refl, equal_sym, le_trans, le_of_equal, plus_le, ordered, Nonneg, times_same, plus_same}
use Rattle.fx_rational.proofs.Powers.{power}
use Rattle.fx_fraction.proofs.Ranges.{true_le}
use Rattle.fx_model.specs.Tree.{Tree, at}
use Rattle.fx_model.specs.Function as function
use Rattle.fx_model.specs.Function.{Function}
use Rattle.fx_model.proofs.Widths.{IsWordWidth}
use Rattle.fx_inequalities.specs.NodeConditions.{no_input}
use Rattle.fx_plan_laws.specs.Demands.{allows}
use Rattle.fx_plan_laws.specs.Powers.{magnitude, power_value, is_below_power, greater}
use Rattle.fx_plan_laws.proofs.Powers.{whole_value_is, below_power}
use Rattle.fx_plan_laws.proofs.Searches.{first_is_true, first_at_least}
use Rattle.fx_plan_laws.proofs.Values.{magnitude_nonneg}
use Rattle.fx_plan_laws.specs.Calm.{Numbers, first_from, reach_of, output_trees, next_trees, input_sizes, state_sizes, literal_sizes, input_reaches, bounds_starts, bounds_sizes, bounds_values, bounds_errors, numbers_of, is_short, is_contracting, IsCalm}
use Rattle.fx_plan_laws.specs.Linear.{is_linear, terms_of, are_literals_below}
use Rattle.fx_plan_laws.proofs.Factors.{HasRoom, IsRoomyInput}

-- ---- tests over lists
pub all_at : {A : Type 0} (p : A → Bool) (xs : List A) (k : ℕ) (d : A) → list_all p xs ≡ true → k < length xs →
    p (get_or xs k d) ≡ true
all_at p xs k d e l = AllPass-from_list_all p xs e k d l

pub le_of_test : (a b : ℕ) → nat_le a b ≡ true → a ≤ b
le_of_test a b e = grind arith

below_whole : {x : Rational} (k : ℕ) → is_below_power x (pos k) ≡ true → AtMost x (power k)
below_whole {x} k e = le_trans (below_power {x = x} (pos k) e) (le_of_equal (whole_value_is k))

-- what is found among the first 64 is true
found : (i : ℕ) (test : ℕ → Bool) → first_from i test < i + 64 → test (first_from i test) ≡ true
unfolding first_from
found i test l = first_is_true 64 test i l

from_start : (i : ℕ) (test : ℕ → Bool) → i ≤ first_from i test
unfolding first_from
from_start i test = first_at_least 64 test i

two_halves : Equal (plus (power_value (negsuc 0)) (power_value (negsuc 0))) (whole (pos 1))
unfolding power_value dyadic_value plus over
two_halves = record { equal = refl }

-- at most a half
pub half_twice : {x : Rational} → AtMost x (power_value (negsuc 0)) → AtMost (plus x x) (whole (pos 1))
half_twice {x} h = le_trans (plus_le h h) (le_of_equal two_halves)

greater_nonneg : (x y : Rational) → Nonneg x → Nonneg y → Nonneg (greater x y)
greater_nonneg x y h g = by (is_at_most y x)
  where
    by : (t : Bool) → Nonneg (if t then x else y)
    by true = h
    by false = g

-- ---- all of it
module _ (n : ℕ) (fn : Function) (width : IsWordWidth n) (calm : IsCalm n fn) where
  abbrev pub c : Numbers
  c = numbers_of n fn

  abbrev pub y : ℕ
  y = 1 + first_from 0 (λ d. bounds_errors fn (pos (1 + d) -ℤ pos c.f))

  parts6 : ((nat_le (length fn.temps) 0 && nat_le 1 (length fn.states) && list_all is_short fn.results &&
      list_all is_contracting (next_trees fn) && nat_le (c.p + 2) c.f && int_le c.z (pos c.m)) ≡ true) ×
      (list_all (λ (d : function.Demand). allows d c.z) fn.demands ≡ true)
  parts6 = and_parts _ _ calm

  parts5 : ((nat_le (length fn.temps) 0 && nat_le 1 (length fn.states) && list_all is_short fn.results &&
      list_all is_contracting (next_trees fn) && nat_le (c.p + 2) c.f) ≡ true) × (int_le c.z (pos c.m) ≡ true)
  parts5 = and_parts _ _ parts6.0

  parts4 : ((nat_le (length fn.temps) 0 && nat_le 1 (length fn.states) && list_all is_short fn.results &&
      list_all is_contracting (next_trees fn)) ≡ true) × (nat_le (c.p + 2) c.f ≡ true)
  parts4 = and_parts _ _ parts5.0

  parts3 : ((nat_le (length fn.temps) 0 && nat_le 1 (length fn.states) && list_all is_short fn.results) ≡ true) ×
      (list_all is_contracting (next_trees fn) ≡ true)
  parts3 = and_parts _ _ parts4.0

  parts2 : ((nat_le (length fn.temps) 0 && nat_le 1 (length fn.states)) ≡ true) × (list_all is_short fn.results ≡ true)
  parts2 = and_parts _ _ parts3.0

  parts1 : (nat_le (length fn.temps) 0 ≡ true) × (nat_le 1 (length fn.states) ≡ true)
  parts1 = and_parts _ _ parts2.0

  pub no_temps : fn.temps ≡ []
  no_temps = by fn.temps (le_of_test _ _ parts1.0)
    where
      by : (ts : List function.Temp) → length ts ≤ 0 → ts ≡ []
      by [] l = refl
      by (t ∷ ts) l = absurd (omega (arith, l))

  pub some_state : 1 ≤ length fn.states
  some_state = le_of_test _ _ parts1.1

  pub demands : list_all (λ (d : function.Demand). allows d c.z) fn.demands ≡ true
  demands = parts6.1

  pub linear_true : list_all is_short fn.results ≡ true
  linear_true = parts2.1

  pub contracting_true : list_all is_contracting (next_trees fn) ≡ true
  contracting_true = parts3.1

  point : c.p + 2 ≤ c.f
  point = le_of_test _ _ parts4.1

  -- the error of outputs in units
  errors : c.a + c.p + 5 + y ≤ c.m + c.f
  errors = moved (c.a + c.p + 5) y c.f c.m (true_le c.z (pos c.m) parts5.1)
    where
      moved : (k y f m : ℕ) → (pos k +ℤ (pos y -ℤ pos f)) ≤ℤ pos m → k + y ≤ m + f
      moved k y f m l = omega (arith, ints, l)

  few_values : c.m ≤ 26
  few_values = by n c.a c.m width.most point
    where
      by : (n a m : ℕ) → n ≤ 64 → max a (m + 6) + 2 ≤ n - 3 - m → m ≤ 26
      by n a m h l = omega (arith, h, l)

  pub whole_width : c.m + c.f + 3 ≡ n
  whole_width = by n c.a c.m point
    where
      by : (n a m : ℕ) → max a (m + 6) + 2 ≤ n - 3 - m → m + (n - 3 - m) + 3 ≡ n
      by n a m l = omega (arith, l)

  states_first : c.q + 3 ≤ c.m
  states_first = from_start (c.q + 3) (bounds_values fn c.q)

  pub room : HasRoom c y
  room = record {
    v = refl;
    some = omega arith;
    roundings = omega arith;
    sizes = omega arith;
    point = point;
    states = states_first;
    errors = errors;
    width = let w = whole_width in let m = width.most in omega (arith, w, m);
  }

  pub values_true : bounds_values fn c.q c.m ≡ true
  values_true = found (c.q + 3) (bounds_values fn c.q) (let f = few_values in omega (arith, f))

  pub starts_true : bounds_starts fn c.q ≡ true
  starts_true = found 0 (bounds_starts fn) (let f = few_values in let s = states_first in omega (arith, f, s))

  pub sizes_true : bounds_sizes fn c.a ≡ true
  sizes_true =
      found 0 (bounds_sizes fn) (let p = point in let w = room.width in let s = room.sizes in omega (arith, p, w, s))

  pub errors_true : bounds_errors fn (pos y -ℤ pos c.f) ≡ true
  errors_true = found 0 (λ d. bounds_errors fn (pos (1 + d) -ℤ pos c.f)) (let e = errors in let w = room.width in
      omega (arith, e, w))

  values_parts : ((list_all
      (λ (i : function.Input). is_below_power (plus (reach_of i) i.err) (pos (c.m - 1))) fn.inputs &&
      list_all (λ (t : Tree). are_literals_below (power_value (pos (c.m - 1))) t) fn.results) ≡ true) ×
      (list_all (λ (t : Tree). is_below_power
      (plus (times (state_sizes t) (power_value (pos (c.q + 2)))) (plus (input_reaches fn t) (literal_sizes t)))
      (pos (c.m - 1))) (output_trees fn) ≡ true)
  values_parts = and_parts _ _ values_true

  inputs_parts : (list_all (λ (i : function.Input). is_below_power (plus (reach_of i) i.err) (pos (c.m - 1))) fn.inputs
      ≡ true) × (list_all (λ (t : Tree). are_literals_below (power_value (pos (c.m - 1))) t) fn.results ≡ true)
  inputs_parts = and_parts _ _ values_parts.0

  starts_parts : (list_all (λ (s : function.State). is_below_power (magnitude s.start) (pos c.q)) fn.states ≡ true) ×
      (list_all (λ (t : Tree). is_below_power (plus (input_reaches fn t) (literal_sizes t)) (pos c.q)) (next_trees fn)
      ≡ true)
  starts_parts = and_parts _ _ starts_true

  -- ---- inputs and states
  pub input_roomy : (k : ℕ) → k < length fn.inputs → Nonneg (at no_input fn.inputs k).err →
      IsRoomyInput c (at no_input fn.inputs k)
  input_roomy k l e =
      let i = at no_input fn.inputs k in
      let r =
      below_whole (c.m - 1) (all_at
      (λ (i : function.Input). is_below_power (plus (reach_of i) i.err)
      (pos (c.m - 1))) fn.inputs k no_input inputs_parts.0 l) in
      let v =
      below_power (pos y -ℤ pos c.f)
      (all_at (λ (i : function.Input). is_below_power (plus i.err i.err)
      (pos y -ℤ pos c.f)) fn.inputs k no_input errors_true l) in
      record {
        reach =
            le_trans (ordered e (by_quotes {ρ = reach_of i ∷ i.err ∷ []} (search quotes depth 20)
            (search quotes depth 20) refl)) r;
        reach_nonneg = greater_nonneg (magnitude i.lo) (magnitude i.hi) (magnitude_nonneg i.lo) (magnitude_nonneg i.hi);
        nonnegative = e;
        error = v;
      }

  pub start_small : (k : ℕ) (d : function.State) → k < length fn.states →
      AtMost (magnitude (get_or fn.states k d).start) (power c.q)
  start_small k d l =
      below_whole c.q (all_at
      (λ (s : function.State). is_below_power (magnitude s.start) (pos c.q)) fn.states k d starts_parts.0 l)

  -- ---- results
  pub result_linear : (k : ℕ) (d : Tree) → k < length fn.results →
      (is_linear (get_or fn.results k d) ≡ true) × (length (terms_of (get_or fn.results k d)) ≤ 64)
  result_linear k d l =
      let p = and_parts _ _ (all_at is_short fn.results k d parts2.1 l) in (p.0, le_of_test _ _ p.1)

  pub result_literals : (k : ℕ) (d : Tree) → k < length fn.results →
      are_literals_below (power_value (pos (c.m - 1))) (get_or fn.results k d) ≡ true
  result_literals k d l =
      all_at (λ (t : Tree). are_literals_below (power_value (pos (c.m - 1))) t) fn.results k d inputs_parts.1 l

  pub result_sizes : (k : ℕ) (d : Tree) → k < length fn.results →
      AtMost (plus (input_sizes (get_or fn.results k d)) (state_sizes (get_or fn.results k d))) (power c.a)
  result_sizes k d l =
      below_whole c.a (all_at
      (λ (t : Tree). is_below_power (plus (input_sizes t) (state_sizes t)) (pos c.a)) fn.results k d sizes_true l)

  pub next_adds : (k : ℕ) (d : Tree) → k < length (next_trees fn) →
      AtMost (plus (input_reaches fn (get_or (next_trees fn) k d)) (literal_sizes (get_or (next_trees fn) k d)))
      (power c.q)
  next_adds k d l =
      below_whole c.q (all_at (λ (t : Tree). is_below_power (plus (input_reaches fn t) (literal_sizes t)) (pos c.q))
      (next_trees fn) k d starts_parts.1 l)

  pub next_half : (k : ℕ) (d : Tree) → k < length (next_trees fn) →
      AtMost (plus (state_sizes (get_or (next_trees fn) k d)) (state_sizes (get_or (next_trees fn) k d)))
      (whole (pos 1))
  next_half k d l = half_twice (below_power (negsuc 0) (all_at is_contracting (next_trees fn) k d parts3.1 l))

  pub output_values : (k : ℕ) (d : Tree) → k < length (output_trees fn) →
      (let t = get_or (output_trees fn) k d in
      AtMost (plus (times (state_sizes t) (power (c.q + 2))) (plus (input_reaches fn t) (literal_sizes t)))
      (power (c.m - 1)))
  output_values k d l =
      let t = get_or (output_trees fn) k d in
      le_trans (le_of_equal (plus_same (times_same (equal_refl (state_sizes t)) (equal_sym (whole_value_is (c.q + 2))))
      (equal_refl _)))
      (below_whole (c.m - 1) (all_at
      (λ (t : Tree). is_below_power
      (plus (times (state_sizes t) (power_value (pos (c.q + 2)))) (plus (input_reaches fn t) (literal_sizes t)))
      (pos (c.m - 1))) (output_trees fn) k d values_parts.1 l))
