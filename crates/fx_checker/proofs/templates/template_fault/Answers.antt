use Rattle.std.proofs.Common.{◌≡◌, ◌-◌, length, sym, subst, ◌∙◌}
use Rattle.std.specs.Option.{option_map}
use Rattle.fx_inequalities.specs.Condition as conditions
use Rattle.fx_formulas.specs.Judging.{judged}
use Rattle.fx_formulas.specs.FaultView.{condition_fault_of}
use Rattle.fx_cert.specs.CertificateView.{certificate_of}
use Rattle.fx_cert.specs.declared.side.Side.{Side}
use Rattle.fx_cert.specs.declared.side.Side.TheVariants as sides
use Rattle.fx_template_conditions.specs.KeptTemplates.{kept_template}
use Rattle.fx_checker.specs.TemplateFaults.{template_condition, templates_by}
use Rattle.fx_checker.proofs.templates.template_fault.Goals as goal

pub returns-in-Value : goal.returns-in-Value
returns-in-Value c =
    let fn = c.args.function.now in let p = c.args.program.now in let cert = certificate_of c.args.certificate.now in
    let next = length p.codes - p.states in
    let claims =
    kept_template (length fn.inputs) (length fn.states) next cert.lines
    (templates_by sides.Value cert) sides.Value c.args.i in
    let judgement = c.keeps_template-judgement.ensures
    ∙ (λ t. judged (kept_template (c.requires.inputs t) (c.requires.states t) next cert.lines
    (templates_by (c.in-Value.is t) cert) (c.in-Value.is t) c.args.i)) in
    subst (λ (s : Side). option_map condition_fault_of c.fault.result
    ≡ conditions.fault_of (template_condition s fn p cert c.args.i)) (sym c.in-Value.is)
    (c.fault.ensures claims judgement)

pub returns-in-Error : goal.returns-in-Error
returns-in-Error c =
    let fn = c.args.function.now in let p = c.args.program.now in let cert = certificate_of c.args.certificate.now in
    let next = length p.codes - p.states in
    let claims =
    kept_template (length fn.inputs) (length fn.states) next cert.lines
    (templates_by sides.Error cert) sides.Error c.args.i in
    let judgement = c.keeps_template-judgement.ensures
    ∙ (λ t. judged (kept_template (c.requires.inputs t) (c.requires.states t) next cert.lines
    (templates_by (c.in-Error.is t) cert) (c.in-Error.is t) c.args.i)) in
    subst (λ (s : Side). option_map condition_fault_of c.fault-in-Error.result
    ≡ conditions.fault_of (template_condition s fn p cert c.args.i)) (sym c.in-Error.is)
    (c.fault-in-Error.ensures claims judgement)
