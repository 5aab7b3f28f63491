use Rattle.std.proofs.Common.{◌≡◌, length, sym, subst, ◌∙◌}
use Rattle.std.specs.Option.{option_map}
use Rattle.fx_inequalities.specs.Accepted.{start_template_claims}
use Rattle.fx_inequalities.specs.Affine.{templates_of}
use Rattle.fx_inequalities.specs.Condition as conditions
use Rattle.fx_formulas.specs.Judging.{judged}
use Rattle.fx_formulas.specs.FaultView.{condition_fault_of}
use Rattle.fx_cert.specs.CertificateView.{certificate_of}
use Rattle.fx_template_conditions.specs.Boxes.{box_at}
use Rattle.fx_cert.specs.declared.side.Side.{Side}
use Rattle.fx_cert.specs.declared.side.Side.TheVariants as sides
use Rattle.fx_checker.specs.TemplateFaults.{templates_by, start_template_condition}
use Rattle.fx_checker.proofs.templates.start_template_fault.Goals as goal

pub returns-in-Value : goal.returns-in-Value
returns-in-Value c =
    let fn = c.args.function.now in let cert = certificate_of c.args.certificate.now in let k = length fn.states in
    let claims =
    start_template_claims k (templates_of k (templates_by sides.Value cert))
    (box_at sides.Value cert.starts) c.args.i in
    let judgement = c.starts_in_template-judgement.ensures
    ∙ (λ t. judged (start_template_claims (c.requires.states t)
    (templates_of (c.requires.states t) (templates_by (c.in-Value.is t) cert))
    (box_at (c.in-Value.is t) cert.starts) c.args.i)) in
    subst (λ (s : Side). option_map condition_fault_of c.fault.result
    ≡ conditions.fault_of (start_template_condition s fn cert c.args.i)) (sym c.in-Value.is)
    (c.fault.ensures claims judgement)

pub returns-in-Error : goal.returns-in-Error
returns-in-Error c =
    let fn = c.args.function.now in let cert = certificate_of c.args.certificate.now in let k = length fn.states in
    let claims =
    start_template_claims k (templates_of k (templates_by sides.Error cert))
    (box_at sides.Error cert.starts) c.args.i in
    let judgement = c.starts_in_template-judgement.ensures
    ∙ (λ t. judged (start_template_claims (c.requires.states t)
    (templates_of (c.requires.states t) (templates_by (c.in-Error.is t) cert))
    (box_at (c.in-Error.is t) cert.starts) c.args.i)) in
    subst (λ (s : Side). option_map condition_fault_of c.fault-in-Error.result
    ≡ conditions.fault_of (start_template_condition s fn cert c.args.i)) (sym c.in-Error.is)
    (c.fault-in-Error.ensures claims judgement)
