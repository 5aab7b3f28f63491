-- What contracts see of inputs, states, temps and demands.
use Rattle.std.specs.Option.{option_map}
use Rattle.fx_rational.specs.Decimal.{decimal_value}
use Rattle.fx_model.specs.Function as model
use Rattle.fx_expr.specs.TreeOf.{tree}
use Rattle.fx_expr.specs.declared.parts.Input.{Input}
use Rattle.fx_expr.specs.declared.parts.State.{State}
use Rattle.fx_expr.specs.declared.parts.Temp.{Temp}
use Rattle.fx_expr.specs.declared.parts.Demand.{Demand}

-- an input with rational ends and error
abbrev pub input_of : Input → model.Input
input_of i = record { name = i.name; lo = decimal_value i.lo; hi = decimal_value i.hi; err = decimal_value i.err }

-- a state with a rational start
abbrev pub state_of : State → model.State
state_of s = record { name = s.name; start = decimal_value s.start }

-- a temp with its tree
abbrev pub temp_of : Temp → model.Temp
temp_of t = record { name = t.name; tree = tree t.expr }

-- a demand with a rational error and rational ends
abbrev pub demand_of : Demand → model.Demand
demand_of d = record {
  err = option_map decimal_value d.err;
  lo = option_map decimal_value d.lo;
  hi = option_map decimal_value d.hi;
}
