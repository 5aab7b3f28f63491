-- That the test for calm functions, whose searches end, is the definition, whose searches don't.
use Rattle.std.specs.Prelude.{◌≡◌, ℕ, ◌+◌, ◌≤◌, max, ℤ, pos, ◌+ℤ◌, ◌-ℤ◌, ◌≤ℤ◌, Bool, true, Contains, length}
use Rattle.std.specs.List.{list_all}
use Rattle.fx_model.specs.Function as function
use Rattle.fx_model.specs.Function.{Function}
use Rattle.fx_model.specs.LawfulProgram.{widths}
use Rattle.fx_plan_laws.specs.Demands.{allows}
use Rattle.fx_plan_laws.specs.Calm.{bounds_starts, bounds_sizes, bounds_values, bounds_errors, next_trees, is_short, is_contracting, IsCalm}

-- the least number from `first` on at which the test is true
pub record IsLeastFrom (first : ℕ) (test : ℕ → Bool) (k : ℕ) : Type 0 where
  pub from_first : first ≤ k
  pub holds : test k ≡ true
  pub least : (j : ℕ) → first ≤ j → test j ≡ true → k ≤ j

-- the point that words of n bits have, where values are at most 2^m
abbrev pub point_at : ℕ → ℕ → ℤ
point_at n m = pos n -ℤ pos (3 + m)

-- with these least numbers a function is calm at a width
pub record IsCalmWith (n : ℕ) (fn : Function) (q a m : ℕ) (v : ℤ) : Type 0 where
  pub least_q : IsLeastFrom 0 (bounds_starts fn) q
  pub least_a : IsLeastFrom 0 (bounds_sizes fn) a
  pub least_m : IsLeastFrom (q + 3) (bounds_values fn q) m
  pub from_unit : (pos 1 -ℤ point_at n m) ≤ℤ v
  pub errors : bounds_errors fn v ≡ true
  pub least_error : (w : ℤ) → (pos 1 -ℤ point_at n m) ≤ℤ w → bounds_errors fn w ≡ true → v ≤ℤ w
  pub temps : length fn.temps ≡ 0
  pub states : 1 ≤ length fn.states
  pub linear : list_all is_short fn.results ≡ true
  pub contracting : list_all is_contracting (next_trees fn) ≡ true
  pub point : pos (max a (m + 6) + 2) ≤ℤ point_at n m
  pub room : (pos (a + max a (m + 6) + 5) +ℤ v) ≤ℤ pos m
  pub demands : list_all (λ (d : function.Demand). allows d (pos (a + max a (m + 6) + 5) +ℤ v)) fn.demands ≡ true

-- there are such numbers
pub record HasCalmNumbers (n : ℕ) (fn : Function) : Type 0 where
  pub q : ℕ
  pub a : ℕ
  pub m : ℕ
  pub v : ℤ
  pub are : IsCalmWith n fn q a m v

-- the test is true exactly where there are
abbrev pub CalmTestLaw : Type 0
CalmTestLaw = (n : ℕ) (fn : Function) → Contains widths n →
    (IsCalm n fn → HasCalmNumbers n fn) × (HasCalmNumbers n fn → IsCalm n fn)
