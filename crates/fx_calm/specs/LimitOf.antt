-- What contracts see of the conditions that a number bounds.
use Rattle.std.specs.Prelude.{◌≡◌, ℕ, pos, ◌+◌, ◌-◌, ◌<◌, ◌≤◌, ◌-ℤ◌, Bool, true, false, length}
use Rattle.std.specs.List.{list_all}
use Rattle.fx_rational.specs.Rational.{whole, plus}
use Rattle.fx_model.specs.Tree as tree
use Rattle.fx_model.specs.Tree.{Tree, at}
use Rattle.fx_model.specs.Function.{Function, outputs}
use Rattle.fx_inequalities.specs.NodeConditions.{no_input}
use Rattle.fx_inequalities.specs.Accepted.{start_of}
use Rattle.fx_plan_laws.specs.Powers.{power_value, is_below_power, magnitude}
use Rattle.fx_plan_laws.specs.Linear.{are_literals_below}
use Rattle.fx_plan_laws.specs.Calm.{reach_of, is_short}
use Rattle.fx_calm.specs.declared.sum.Sum.{Sum}
use Rattle.fx_calm.specs.declared.sum.Sum.TheVariants.{States, Sizes, Adds, Values}
use Rattle.fx_calm.specs.declared.limit.Limit.{Limit}
use Rattle.fx_calm.specs.declared.limit.Limit.TheVariants.{Starts, Inputs, Literals, Sums, Errors}
use Rattle.fx_calm.specs.SumOf.{sum_value, IsSum}

-- past the last result
abbrev pub no_tree : Tree
no_tree = tree.Literal (whole (pos 0))

-- the first result whose sum is asked for, and of how many: those of next states, of all results, of outputs
abbrev pub first_result : Function → Sum → ℕ
first_result fn States = outputs fn
first_result fn Sizes = 0
first_result fn Adds = outputs fn
first_result fn (Values s) = 0

abbrev pub result_count : Function → Sum → ℕ
result_count fn States = length fn.results - outputs fn
result_count fn Sizes = length fn.results
result_count fn Adds = length fn.results - outputs fn
result_count fn (Values s) = outputs fn

-- how many things are limited
abbrev pub count_of : Function → Limit → ℕ
count_of fn Starts = length fn.states
count_of fn Inputs = length fn.inputs
count_of fn Literals = length fn.results
count_of fn (Sums sum) = result_count fn sum
count_of fn (Errors f) = length fn.inputs

-- whether thing i is within the limit for the number w
abbrev pub is_within : Function → Limit → ℕ → ℕ → Bool
is_within fn Starts i w = is_below_power (magnitude (start_of fn i)) (pos w)
is_within fn Inputs i w = let x = at no_input fn.inputs i in is_below_power (plus (reach_of x) x.err) (pos w)
is_within fn Literals i w = are_literals_below (power_value (pos w)) (at no_tree fn.results i)
is_within fn (Sums sum) i w =
    is_below_power (sum_value fn sum (at no_tree fn.results (first_result fn sum + i))) (pos w)
is_within fn (Errors f) i w =
    let x = at no_input fn.inputs i in is_below_power (plus x.err x.err) (pos (1 + w) -ℤ pos f)

-- so are the first n
abbrev pub AreWithin : Function → Limit → ℕ → ℕ → Type 0
AreWithin fn limit n w = (i : ℕ) → i < n → is_within fn limit i w ≡ true

-- of the numbers from `first` to `last`, w is the least at which the first n are; behind the last where there is none
pub record IsLeast (fn : Function) (limit : Limit) (first last n w : ℕ) : Type 0 where
  pub from_first : first ≤ w
  pub to_last : w ≤ last + 1
  pub holds : w ≤ last → AreWithin fn limit n w
  pub least : (j : ℕ) → first ≤ j → j ≤ last → AreWithin fn limit n j → w ≤ j

-- the same of thing i alone
pub record IsLeastAt (fn : Function) (limit : Limit) (i first last w : ℕ) : Type 0 where
  pub from_first : first ≤ w
  pub to_last : w ≤ last + 1
  pub holds : w ≤ last → is_within fn limit i w ≡ true
  pub none_before : (j : ℕ) → first ≤ j → j < w → is_within fn limit i j ≡ false

-- all things of two limits
abbrev pub AreBothWithin : Function → Limit → Limit → ℕ → Type 0
AreBothWithin fn one other w = AreWithin fn one (count_of fn one) w × AreWithin fn other (count_of fn other) w

-- and the least number for them together
pub record IsLeastOfBoth (fn : Function) (one other : Limit) (first last w : ℕ) : Type 0 where
  pub from_first : first ≤ w
  pub to_last : w ≤ last + 1
  pub holds : w ≤ last → AreBothWithin fn one other w
  pub least : (j : ℕ) → first ≤ j → j ≤ last → AreBothWithin fn one other j → w ≤ j

-- what has to be known before sums are formed: results are short, and inputs and literals at most 2^25
pub record IsTame (fn : Function) : Type 0 where
  pub short : list_all is_short fn.results ≡ true
  pub inputs : AreWithin fn Inputs (length fn.inputs) 25
  pub literals : AreWithin fn Literals (length fn.results) 25

-- of this limit
abbrev pub IsReady : Function → Limit → Type 0
IsReady fn (Sums sum) = IsTame fn × IsSum sum
IsReady fn (Errors f) = f ≤ 58
IsReady fn limit = Unit {0}
