-- What contracts see of the numbers of a function.
use Rattle.std.specs.Prelude.{◌≡◌, ℕ, ◌+◌, ◌≤◌, nat_le, Bool, true, ◌&&◌, if◌then◌else◌, length, Option, Some, None}
use Rattle.std.specs.List.{list_all}
use Rattle.fx_model.specs.Function.{Function}
use Rattle.fx_plan_laws.specs.Calm as model
use Rattle.fx_plan_laws.specs.Calm.{first_from, next_trees, bounds_starts, bounds_sizes, bounds_values, is_short, is_contracting, numbers_of, is_calm}
use Rattle.fx_calm.specs.declared.numbers.Numbers.{Numbers}

-- as the definition has them
abbrev pub numbers_view : Numbers → model.Numbers
numbers_view c = record { q = c.q; a = c.a; m = c.m; f = c.f; p = c.p; v = c.v; z = c.z }

-- those of a function that is calm at a width
abbrev pub calm_numbers : ℕ → Function → Option model.Numbers
calm_numbers n fn = if is_calm n fn then Some (numbers_of n fn) else None

-- ---- on the way there
-- no temps, states, and short results
abbrev pub has_form : Function → Bool
has_form fn = nat_le (length fn.temps) 0 && nat_le 1 (length fn.states) && list_all is_short fn.results

-- what is known when all exponents but those of errors are
pub record HasExponents (fn : Function) (q a m : ℕ) : Type 0 where
  pub form : has_form fn ≡ true
  pub contracting : list_all is_contracting (next_trees fn) ≡ true
  pub starts : first_from 0 (bounds_starts fn) ≡ q
  pub sizes : first_from 0 (bounds_sizes fn) ≡ a
  pub values : first_from (q + 3) (bounds_values fn q) ≡ m
  pub room : q + 3 ≤ m
  pub few_values : m ≤ 26
  pub few_sizes : a ≤ 56
