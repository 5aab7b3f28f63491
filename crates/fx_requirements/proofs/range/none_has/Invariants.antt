use Rattle.std.proofs.Common.{◌≡◌, drop, map}
use Rattle.fx_grammar.specs.Steps.{fault}
use Rattle.fx_grammar.specs.Ranges.{all_pass}
use Rattle.fx_requirements.specs.Views.{subject_of}
use Rattle.fx_requirements.specs.Flaws.{has, kind_of}
use Rattle.fx_requirements.proofs.range.none_has.Given as goal

abbrev pub invariant-loop-subject : goal.invariant-loop-subject
invariant-loop-subject l =
    all_pass (has l.flaw) (λ at. fault at (kind_of l.flaw)) (map subject_of (drop l.subject-index l.subjects))
    ≡ all_pass (has l.flaw) (λ at. fault at (kind_of l.flaw)) (map subject_of l.subjects)
