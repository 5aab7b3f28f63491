use Rattle.std.proofs.Common.{◌≡◌, map, take}
use Rattle.fx_expr.specs.Parts as parts
use Rattle.fx_grammar.specs.Ranges.{declared_input}
use Rattle.fx_requirements.specs.Views.{subject_of}
use Rattle.fx_parser.proofs.owned.owned_inputs.Given as goal

abbrev pub invariant-loop-subject : goal.invariant-loop-subject
invariant-loop-subject l =
    map parts.input_of l.inputs.items ≡ map declared_input (map subject_of (take l.subject-index l.subjects))
