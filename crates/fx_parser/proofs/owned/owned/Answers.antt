use Rattle.std.proofs.Common.{map}
use Rattle.fx_model.specs.Names.{IsName}
use Rattle.fx_grammar.specs.Ranges.{declared_input}
use Rattle.fx_requirements.specs.Views.{subject_of}
use Rattle.fx_parser.specs.Views.{state_value, temp_value}
use Rattle.fx_parser.proofs.Unmapped.{unmapped}
use Rattle.fx_parser.proofs.owned.owned.Goals as goal

pub declared-requires-clause-inputs : goal.declared-requires-clause-inputs
declared-requires-clause-inputs c =
    rw c.deref.ensures.value (unmapped subject_of (λ s. IsName s.name) c.args.source_function.inputs.items
    (unmapped declared_input (λ i. IsName i.name)
    (map subject_of c.args.source_function.inputs.items) c.requires.1.inputs))

pub declared-requires-clause-states : goal.declared-requires-clause-states
declared-requires-clause-states c =
    rw c.deref-2.ensures.value
    (unmapped state_value (λ s. IsName s.name) c.args.source_function.states.items c.requires.1.states)

pub owned_temps-requires : goal.owned_temps-requires
owned_temps-requires c = unmapped temp_value (λ t. IsName t.name) c.args.source_function.temps.items c.requires.1.temps
