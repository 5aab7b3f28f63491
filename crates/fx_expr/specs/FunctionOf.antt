-- What contracts see of a function.
use Rattle.std.specs.Prelude.{◌≡◌, ℕ, List, length, map}
use Rattle.fx_model.specs.Function as model
use Rattle.fx_model.specs.Nodes.{nodes_of}
use Rattle.fx_expr.specs.TreeOf.{tree}
use Rattle.fx_expr.specs.Parts.{input_of, state_of, temp_of, demand_of}
use Rattle.fx_expr.specs.LawfulFunction.{IsLawfulFunction}
use Rattle.fx_expr.specs.declared.expr.Expr.{Expr}
use Rattle.fx_expr.specs.declared.parts.Input.{Input}
use Rattle.fx_expr.specs.declared.parts.State.{State}
use Rattle.fx_expr.specs.declared.parts.Temp.{Temp}
use Rattle.fx_expr.specs.declared.parts.Demand.{Demand}
use Rattle.fx_expr.specs.declared.function.Function.TheInside.{Inside}

-- the record of the definitions, with trees for expressions and rationals for decimals
abbrev pub made_function : List ℕ → List Input → List State → List Temp → List Expr → List Demand → model.Function
made_function name inputs states temps results demands = record {
  name = name;
  inputs = map input_of inputs;
  states = map state_of states;
  temps = map temp_of temps;
  results = map tree results;
  demands = map demand_of demands;
}

-- all but the count of nodes
abbrev pub function_of : Inside → model.Function
function_of f = made_function f.name f.inputs f.states f.temps f.results f.demands

-- a function in memory has the count of its nodes at hand
pub record IsFunction (f : Inside) : Type 0 where
  pub lawful : IsLawfulFunction (function_of f)
  pub nodes : f.nodes ≡ length (nodes_of (function_of f))
