-- What contracts see of a step.
use Rattle.fx_inequalities.specs.Rewriting.{Rewriting}
use Rattle.fx_step.specs.declared.step.Step.{Step}

-- the step of the definitions
abbrev pub step_view : Step → Rewriting
step_view s = record { place = s.place; path = s.path; rule = s.rule }
