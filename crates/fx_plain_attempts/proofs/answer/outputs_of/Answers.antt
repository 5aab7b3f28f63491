use Rattle.std.proofs.Common.{◌∙◌, ap}
use Rattle.fx_model.specs.Machine.{Program}
use Rattle.fx_plain_attempts.proofs.Outcomes.{outputs_are}
use Rattle.fx_plain_attempts.proofs.answer.outputs_of.Goals as goal

pub returns-clause-count : goal.returns-clause-count
returns-clause-count c =
    let a = c.args.certified.now in
    ap (λ (p : Program). p.outputs) (c.behind-certified.view_is ∙ c.program.ensures)
    ∙ outputs_are a.function a.program a.certificate c.certified.ensures.certified
