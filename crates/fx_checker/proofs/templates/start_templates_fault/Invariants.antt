use Rattle.std.proofs.Common.{◌≡◌, None}
use Rattle.fx_inequalities.specs.Condition.{each_index, first_fault_of}
use Rattle.fx_cert.specs.CertificateView.{certificate_of}
use Rattle.fx_checker.specs.TemplateFaults.{start_template_condition}
use Rattle.fx_checker.proofs.templates.start_templates_fault.Given as goal

abbrev pub invariant-loop-i : goal.invariant-loop-i
invariant-loop-i l =
    None ≡ first_fault_of (each_index l.i
    (start_template_condition l.fn.side l.fn.function (certificate_of l.fn.certificate)))
