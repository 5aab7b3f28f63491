-- Which demands a plan meets that knows of an output only by which power of two its error is bounded.
use Rattle.std.specs.Prelude.{ℤ, Bool, true, not, ◌&&◌, Option, Some, None, is_some}
use Rattle.fx_rational.specs.Rational.{Rational, is_at_most}
use Rattle.fx_model.specs.Function as function
use Rattle.fx_plan_laws.specs.Powers.{power_value}

-- a demanded error, where there is one, is at least 2^v
abbrev pub allows_error : Option Rational → ℤ → Bool
allows_error None v = true
allows_error (Some e) v = is_at_most (power_value v) e

-- no end is demanded, and an error of 2^v is allowed
abbrev pub allows : function.Demand → ℤ → Bool
allows d v = not (is_some d.lo) && (not (is_some d.hi) && allows_error d.err v)
