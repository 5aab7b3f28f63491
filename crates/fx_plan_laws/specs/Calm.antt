-- When a function with states is calm at a width: its numbers, and what is asked of them.
use Rattle.std.specs.Prelude.{ℕ, ◌+◌, ◌-◌, max, nat_le, ℤ, pos, negsuc, ◌+ℤ◌, ◌-ℤ◌, int_le, Bool, ◌&&◌, List, length, take, drop, IsTrue}
use Rattle.std.specs.List.{list_all}
use Rattle.fx_rational.specs.Rational.{Rational, plus, times}
use Rattle.fx_model.specs.Tree.{Tree, at}
use Rattle.fx_model.specs.Function as function
use Rattle.fx_model.specs.Function.{Function, outputs}
use Rattle.fx_inequalities.specs.NodeConditions.{no_input}
use Rattle.fx_plan_laws.specs.Powers.{power_value, is_below_power, first_true, magnitude, greater}
use Rattle.fx_plan_laws.specs.Demands.{allows}
use Rattle.fx_plan_laws.specs.Linear.{is_linear, terms_of, total, input_size, state_size, literal_size, input_reach, are_literals_below}

-- the first from i on; of a function that is calm it is among the first 64
unfoldable pub first_from : ℕ → (ℕ → Bool) → ℕ
first_from i test = first_true 64 test i

-- ---- of a function
-- what no true value of an input is above, without its sign
abbrev pub reach_of : function.Input → Rational
reach_of i = greater (magnitude i.lo) (magnitude i.hi)

-- of input k
abbrev pub reach_at : Function → ℕ → Rational
reach_at fn k = reach_of (at no_input fn.inputs k)

-- the outputs' trees, and those of the next states
abbrev pub output_trees : Function → List Tree
output_trees fn = take (outputs fn) fn.results

abbrev pub next_trees : Function → List Tree
next_trees fn = drop (outputs fn) fn.results

-- what a tree's sizes come to
abbrev pub input_sizes : Tree → Rational
input_sizes t = total input_size (terms_of t)

abbrev pub state_sizes : Tree → Rational
state_sizes t = total state_size (terms_of t)

abbrev pub literal_sizes : Tree → Rational
literal_sizes t = total literal_size (terms_of t)

-- the sizes of its input terms, each times what its input reaches
abbrev pub input_reaches : Function → Tree → Rational
input_reaches fn t = total (input_reach (reach_at fn)) (terms_of t)

-- ---- the numbers: each is the exponent of a power of two, but for f
pub record Numbers : Type 0 where
  -- starts, and what a step adds to a state
  pub q : ℕ
  -- the sizes of a result's terms
  pub a : ℕ
  -- all values
  pub m : ℕ
  -- the point of all words
  pub f : ℕ
  -- what roundings come to, in units
  pub p : ℕ
  -- the errors of inputs
  pub v : ℤ
  -- the error of an output
  pub z : ℤ

-- each start, and what each next state adds, is at most 2^q
abbrev pub bounds_starts : Function → ℕ → Bool
bounds_starts fn q =
    list_all (λ (s : function.State). is_below_power (magnitude s.start) (pos q)) fn.states &&
    list_all (λ (t : Tree). is_below_power (plus (input_reaches fn t) (literal_sizes t)) (pos q)) (next_trees fn)

-- in each result the sizes of input and state terms add up to at most 2^a
abbrev pub bounds_sizes : Function → ℕ → Bool
bounds_sizes fn a = list_all (λ (t : Tree). is_below_power (plus (input_sizes t) (state_sizes t)) (pos a)) fn.results

-- inputs, literals and outputs are at most 2^(m-1), where states are at most 2^(q+2)
abbrev pub bounds_values : Function → ℕ → ℕ → Bool
bounds_values fn q m =
    list_all (λ (i : function.Input). is_below_power (plus (reach_of i) i.err) (pos (m - 1))) fn.inputs &&
    list_all (λ (t : Tree). are_literals_below (power_value (pos (m - 1))) t) fn.results &&
    list_all (λ (t : Tree). is_below_power
    (plus (times (state_sizes t) (power_value (pos (q + 2)))) (plus (input_reaches fn t) (literal_sizes t)))
    (pos (m - 1))) (output_trees fn)

-- twice each input's error is at most 2^v
abbrev pub bounds_errors : Function → ℤ → Bool
bounds_errors fn v = list_all (λ (i : function.Input). is_below_power (plus i.err i.err) v) fn.inputs

-- those of these exponents, at width n; twice the error of inputs is at most 2^(1 + d) units
abbrev pub numbers : ℕ → ℕ → ℕ → ℕ → ℕ → Numbers
numbers n q a m d =
    let f = n - 3 - m in let p = max a (m + 6) in let v = pos (1 + d) -ℤ pos f in
    record { q = q; a = a; m = m; f = f; p = p; v = v; z = pos (a + p + 5) +ℤ v }

-- the least that are so, with m from q + 3 and v from 1 - f on
abbrev pub numbers_of : ℕ → Function → Numbers
numbers_of n fn =
    let q = first_from 0 (bounds_starts fn) in
    let a = first_from 0 (bounds_sizes fn) in
    let m = first_from (q + 3) (bounds_values fn q) in
    numbers n q a m (first_from 0 (λ d. bounds_errors fn (pos (1 + d) -ℤ pos (n - 3 - m))))

-- ---- calm
-- a linear tree of at most 64 terms
abbrev pub is_short : Tree → Bool
is_short t = is_linear t && nat_le (length (terms_of t)) 64

-- the sizes of its state terms add up to at most a half
abbrev pub is_contracting : Tree → Bool
is_contracting t = is_below_power (state_sizes t) (negsuc 0)

-- no temps; there are states; each result is short; a step halves the states; the numbers leave room; each demand
-- allows an error of 2^z
abbrev pub is_calm_with : Numbers → Function → Bool
is_calm_with c fn =
    nat_le (length fn.temps) 0 && nat_le 1 (length fn.states) && list_all is_short fn.results &&
    list_all is_contracting (next_trees fn) &&
    nat_le (c.p + 2) c.f && int_le c.z (pos c.m) && list_all (λ (d : function.Demand). allows d c.z) fn.demands

abbrev pub is_calm : ℕ → Function → Bool
is_calm n fn = is_calm_with (numbers_of n fn) fn

abbrev pub IsCalm : ℕ → Function → Type 0
IsCalm n fn = IsTrue (is_calm n fn)
