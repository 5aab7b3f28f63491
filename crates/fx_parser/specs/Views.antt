-- What the values of the code stand for.
use Rattle.std.specs.Prelude.{◌≡◌, ◌≤◌, ◌+◌, ◌++◌, ◌∷◌, [], length, List, map}
use Rattle.fx_rational.specs.Decimal.{decimal_value}
use Rattle.fx_model.specs.Limits.{input_limit, state_limit, temp_limit}
use Rattle.fx_model.specs.Function as model
use Rattle.fx_expr.specs.TreeOf.{tree}
use Rattle.fx_grammar.specs.Fronts as fronts
use Rattle.fx_grammar.specs.Bodies as bodies
use Rattle.fx_grammar.specs.Functions as functions
use Rattle.fx_grammar.specs.Sources.{function_names}
use Rattle.fx_cursor.specs.Texts.{numeral_decimal}
use Rattle.fx_requirements.specs.Views.{subjects_of, inputs_value, demand_value}
use Rattle.fx_parser.specs.declared.front.State.{State}
use Rattle.fx_parser.specs.declared.front.Declared.{Declared}
use Rattle.fx_parser.specs.declared.body.Temp.{Temp}
use Rattle.fx_parser.specs.declared.body.Body.{Body}
use Rattle.fx_parser.specs.declared.body.Results.{Results}
use Rattle.fx_parser.specs.declared.function.Front.{Front}
use Rattle.fx_parser.specs.declared.function.SourceFunction.{SourceFunction}
use Rattle.fx_parser.specs.declared.source.SourceFunctions.{SourceFunctions}

abbrev pub state_value : State → model.State
state_value s = record { name = s.name.now; start = decimal_value (numeral_decimal s.start) }

abbrev pub declared_of : Declared → fronts.Declared
declared_of h = record { names = h.names; states = map state_value h.states.items }

-- what is declared with one more state and its name
abbrev pub with_state : fronts.Declared → model.State → fronts.Declared
with_state h s = record { names = h.names ++ s.name ∷ []; states = h.states ++ s ∷ [] }

abbrev pub temp_value : Temp → model.Temp
temp_value t = record { name = t.name.now; tree = tree t.expr }

abbrev pub body_value : Body → bodies.Body
body_value b = record {
  names = b.names;
  inputs = b.inputs;
  states = b.states;
  temps = map temp_value b.temps.items;
  nodes = b.nodes;
}

-- the names are few: inputs, states and temps keep their limits
abbrev pub HasBodyRoom : Body → Type 0
HasBodyRoom b =
    (length b.names ≤ input_limit + state_limit + length b.temps.items) × (length b.temps.items ≤ temp_limit)

abbrev pub results_value : Results → bodies.Results
results_value r = record { trees = map tree r.trees.items; nodes = r.nodes }

abbrev pub front_value : Front → functions.Front
front_value f =
    record { name = f.name.now; subjects = subjects_of f.subjects; declared = declared_of f.declared; reals = f.reals }

abbrev pub source_function_of : SourceFunction → model.Function
source_function_of f = record {
  name = f.name.now;
  inputs = inputs_value f.inputs;
  states = map state_value f.states.items;
  temps = map temp_value f.temps.items;
  results = map tree f.results.items;
  demands = map demand_value f.demands.items;
}

abbrev pub source_functions_of : SourceFunctions → List model.Function
source_functions_of d = map source_function_of d.list.items

-- the set has their names
abbrev pub AreNamed : SourceFunctions → Type 0
AreNamed d = d.names ≡ function_names (source_functions_of d)
