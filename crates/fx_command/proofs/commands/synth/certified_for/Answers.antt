use Rattle.std.proofs.Common.{subst, sym}
use Rattle.fx_synth.specs.Synthesis.{Explains}
use Rattle.fx_ends.specs.Ends.{NotFound}
use Rattle.fx_command.specs.SynthView.{Unfound, obstacle, memory}
use Rattle.fx_command.proofs.commands.synth.certified_for.Goals as goal

pub returns-in-Err-NotFound-clause-failed : goal.returns-in-Err-NotFound-clause-failed
returns-in-Err-NotFound-clause-failed c =
    let named = obstacle _ (subst (Explains c.args.asked.now.wanted c.args.function.now) c.in-Err-NotFound.field-0-is
    c.in-Err-NotFound.ensures.not_found) in
    subst (λ place. Unfound c.args.asked.now.wanted c.args.function.now (NotFound place)) (sym c.place_of.ensures) named

pub returns-in-Err-Memory-clause-failed : goal.returns-in-Err-Memory-clause-failed
returns-in-Err-Memory-clause-failed c = memory
