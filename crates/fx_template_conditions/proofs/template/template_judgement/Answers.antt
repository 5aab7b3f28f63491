use Rattle.fx_template_conditions.specs.CertificateSide.{templates_on}
use Rattle.fx_template_conditions.specs.KeptTemplates.{next_template}
use Rattle.fx_template_conditions.proofs.template.template_judgement.Goals as goal

pub returns : goal.returns
returns c =
    let a = c.args in let d = a.side.now in
    c.lies_in.ensures (next_template d.inputs d.states a.next d.lines d.templates d.which a.i)
    ((templates_on d).bound a.i) c.template_bound_of-bound.ensures c.bound.ensures
