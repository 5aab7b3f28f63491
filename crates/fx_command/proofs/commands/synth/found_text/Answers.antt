use Rattle.std.proofs.Common.{sym, subst}
use Rattle.std.proofs.lemmas.Result.{IfErr-weaker, IfOk-weaker}
use Rattle.fx_arguments.specs.CommandView.{synthesis_view}
use Rattle.fx_command.specs.SynthView.{Failing, no_memory}
use Rattle.fx_command.proofs.Synthesised.{text_for}
use Rattle.fx_command.proofs.commands.synth.found_text.Goals as goal

pub returns-clause-found : goal.returns-clause-found
returns-clause-found c =
    let t = c.bundle_text.ensures in
    IfOk-weaker c.bundle_text.result _ _ (λ text made. text_for (synthesis_view c.args.asked.now) c.in-Ok.certified
    c.args.bytes.now text.items c.in-Ok.ensures.found t.lawful t.accepted made) t.text

pub returns-clause-failed : goal.returns-clause-failed
returns-clause-failed c =
    IfErr-weaker c.bundle_text.result _ _
    (λ end why. subst (Failing c.args.bytes.now (synthesis_view c.args.asked.now)) (sym why) no_memory)
    c.bundle_text.ensures.memory
