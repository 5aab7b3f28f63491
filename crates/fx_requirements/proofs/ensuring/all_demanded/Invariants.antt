use Rattle.std.proofs.Common.{◌≡◌, map, take}
use Rattle.fx_grammar.specs.Ensuring.{declared_demand}
use Rattle.fx_requirements.specs.Views.{subject_of, demand_value}
use Rattle.fx_requirements.proofs.ensuring.all_demanded.Given as goal

abbrev pub invariant-loop-subject : goal.invariant-loop-subject
invariant-loop-subject l =
    map demand_value l.demands.items ≡ map declared_demand (map subject_of (take l.subject-index l.subjects))
