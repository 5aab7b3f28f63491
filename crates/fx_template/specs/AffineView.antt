-- What contracts see of an affine form, and of what is planned for a program: records of numbers and lists.
use Rattle.std.specs.Prelude.{ℕ, ℤ, List, map, Option}
use Rattle.std.specs.Option.{option_map}
use Rattle.fx_rational.specs.Dyadic.{Dyadic}
use Rattle.fx_rational.specs.Interval.{Interval}
use Rattle.fx_template.specs.declared.affine.Affine.{Affine}
use Rattle.fx_template.specs.declared.plan.PlannedNodes.{PlannedNodes}

-- a coefficient for each variable, and where the value less their sum lies
pub record LinearForm : Type 0 where
  pub coefs : List Dyadic
  pub rest : Interval

-- an affine form
abbrev pub linear_form : Affine → LinearForm
linear_form a = record { coefs = a.coefs; rest = a.rest }

-- a member for each node: its point, range, error and form, the rest of the form's errors, and the centres of its
-- operands
pub record Planned : Type 0 where
  pub width : ℕ
  pub points : List ℤ
  pub ranges : List Interval
  pub errors : List Interval
  pub forms : List (Option LinearForm)
  pub error_rests : List Interval
  pub centres : List (Dyadic × Dyadic)

-- a plan
abbrev pub planned : PlannedNodes → Planned
planned p = record {
  width = p.width;
  points = p.points.items;
  ranges = p.ranges.items;
  errors = p.errors.items;
  forms = map (option_map linear_form) p.forms.items;
  error_rests = p.error_rests.items;
  centres = p.centres.items;
}
