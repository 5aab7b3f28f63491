use Rattle.std.proofs.Common.{◌<◌, length}
use Rattle.fx_formulas.specs.FaultView.{condition_fault_of}
use Rattle.fx_cert.specs.CertificateView.{certificate_of}
use Rattle.fx_checker.specs.TemplateFaults.{templates_by, start_template_condition}
use Rattle.fx_checker.proofs.Each.{found_at, none_at}
use Rattle.fx_checker.proofs.templates.start_templates_fault.Goals as goal

pub returns-in-Some : goal.returns-in-Some
returns-in-Some c =
    let f = start_template_condition c.args.side.now c.args.function.now (certificate_of c.args.certificate.now) in
    let count = length (templates_by c.args.side.now (certificate_of c.args.certificate.now)) in
    let below : c.loop-i.i < count = rw (← c.template_count-i-end.ensures) c.loop-i-test.true in
    found_at count c.loop-i.i f (condition_fault_of c.in-Some.fault) c.loop-i.invariant c.in-Some.ensures below

pub loop-i-preserved : goal.loop-i-preserved
loop-i-preserved c =
    none_at c.loop-i.i (start_template_condition c.args.side.now c.args.function.now
    (certificate_of c.args.certificate.now)) c.loop-i.invariant c.in_default.ensures
