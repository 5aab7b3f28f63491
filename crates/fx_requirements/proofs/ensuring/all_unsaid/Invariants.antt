use Rattle.std.proofs.Common.{◌≡◌, replicate}
use Rattle.fx_grammar.specs.Ensuring.{unsaid}
use Rattle.fx_requirements.specs.Views.{subjects_of}
use Rattle.fx_requirements.proofs.ensuring.all_unsaid.Given as goal

abbrev pub invariant-loop : goal.invariant-loop
invariant-loop l = subjects_of l.subjects ≡ replicate l.counter unsaid
