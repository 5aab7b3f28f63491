-- What the calm plan of a calm function meets.
use Rattle.std.specs.Prelude.{ℕ, ◌<◌, All, Contains}
use Rattle.fx_rational.specs.Rational.{AtMost}
use Rattle.fx_model.specs.Function.{Function, outputs}
use Rattle.fx_model.specs.LawfulProgram.{IsLawfulProgram, widths}
use Rattle.fx_model.specs.Machine.{Round}
use Rattle.fx_model.specs.Nodes.{nodes_of}
use Rattle.fx_inequalities.specs.Rewriting.{Rewrites}
use Rattle.fx_inequalities.specs.Accepted.{IsAccepted, certified_bound}
use Rattle.fx_inequalities.specs.LawfulCertificate.{IsLawfulCertificate}
use Rattle.fx_expr.specs.LawfulFunction.{IsLawfulFunction}
use Rattle.fx_program.specs.Rounding.{IsRoundedBy}
use Rattle.fx_plan_laws.specs.Powers.{power_value}
use Rattle.fx_plan_laws.specs.Narrow.{IsNarrowInput, IsNarrowState, IsNarrowNode, IsNarrowDemand}
use Rattle.fx_plan_laws.specs.Calm.{numbers_of, IsCalm}
use Rattle.fx_plan_laws.specs.CalmPlan.{calm_program, calm_certificate}

-- what each function of a source meets: it is lawful, and its numbers are narrow
pub record IsNarrowFunction (fn : Function) : Type 0 where
  pub lawful : IsLawfulFunction fn
  pub inputs : All IsNarrowInput fn.inputs
  pub states : All IsNarrowState fn.states
  pub literals : All IsNarrowNode (nodes_of fn)
  pub demands : All IsNarrowDemand fn.demands

-- it is accepted, whatever the rewriting rules are; a text can spell it; it rounds as is wanted; and each output's
-- bound is at most 2^z
pub record IsCalmPlan (n : ℕ) (r : Round) (fn : Function) : Type 0 where
  pub accepted : (rewrite : Rewrites) → IsAccepted rewrite fn (calm_program n r fn) (calm_certificate n fn)
  pub program : IsLawfulProgram (calm_program n r fn)
  pub certificate : IsLawfulCertificate (calm_certificate n fn)
  pub rounded : IsRoundedBy r (calm_program n r fn)
  pub bounds : (j : ℕ) → j < outputs fn →
      AtMost (certified_bound (calm_program n r fn) (calm_certificate n fn) j) (power_value (numbers_of n fn).z)

abbrev pub CalmLaw : Type 0
CalmLaw =
    (n : ℕ) (r : Round) (fn : Function) → Contains widths n → IsNarrowFunction fn → IsCalm n fn → IsCalmPlan n r fn
