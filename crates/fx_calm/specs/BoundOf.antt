-- What contracts see of the bounds of nodes.
use Rattle.std.specs.Prelude.{ℕ, ◌+◌, ◌^◌, ◌<◌, ◌≤◌, ◌+ℤ◌, ◌≤ℤ◌, pos, List, [], map, length, FitsSigned}
use Rattle.std.specs.Int.{w64}
use Rattle.fx_rational.specs.Rational.{floor, scaled}
use Rattle.fx_model.specs.Function.{Function}
use Rattle.fx_model.specs.Nodes.{Node, Const, State}
use Rattle.fx_inequalities.specs.Accepted.{start_of}
use Rattle.fx_plan_laws.specs.Powers.{magnitude}
use Rattle.fx_plan_laws.specs.Bounds as model
use Rattle.fx_plan_laws.specs.Bounds.{units_up, state_bound}
use Rattle.fx_inequalities.specs.Certificate.{Certificate}
use Rattle.fx_plan_laws.specs.CalmPlan.{units, calm_line, calm_start, unit_templates, bounds_of}
use Rattle.fx_plan_laws.specs.Calm as numbers
use Rattle.fx_calm.specs.declared.bound.Bound.{Bound}

-- as the definition has it
abbrev pub bound_of : Bound → model.Bound
bound_of b = record { r = b.r; e = b.e }

-- so is each of a list
abbrev pub bounds_in : List Bound → List model.Bound
bounds_in bs = map bound_of bs

-- of 61 bits, as all are of a calm function
pub record IsShort (b : model.Bound) : Type 0 where
  pub r : b.r ≤ 2 ^ 61
  pub e : b.e ≤ 2 ^ 61

-- a product drops something, and states and their errors are at most 2^61 units, as those of a calm function
pub record HasPlace (c : numbers.Numbers) : Type 0 where
  pub some : 1 ≤ c.f
  pub point : c.f ≤ 58
  pub few : c.p ≤ 60
  pub states : c.q + 2 + c.f ≤ 61
  pub error_low : pos 0 ≤ℤ (pos (c.p + 4 + c.f) +ℤ c.v)
  pub error_high : (pos (c.p + 4 + c.f) +ℤ c.v) ≤ℤ pos 61

-- the word of a literal, and the start word of a state that is there, are words of 64 bits
abbrev pub HasWord : Function → ℕ → Node → Type 0
HasWord fn f (Const c) = FitsSigned w64 (floor (scaled c (pos f)))
HasWord fn f (State k) = (k < length fn.states) × FitsSigned w64 (floor (scaled (start_of fn k) (pos f)))
HasWord fn f node = Unit {0}

-- each start is at most 2^61 units
abbrev pub HaveShortStarts : Function → ℕ → Type 0
HaveShortStarts fn f = (k : ℕ) → k < length fn.states → units_up f (magnitude (start_of fn k)) ≤ 2 ^ 61

-- the certificate that these numbers give
abbrev pub certificate_with : numbers.Numbers → Function → Certificate
certificate_with c fn = let b = state_bound c in let k = length fn.states in record {
  inputs = length fn.inputs;
  states = k;
  steps = [];
  starts = map (calm_start c.f) fn.states;
  templates = unit_templates k (units c.f b.r) 0 k;
  error_templates = unit_templates k (units c.f b.e) 0 k;
  lines = map (calm_line c.f) (bounds_of c fn);
}
