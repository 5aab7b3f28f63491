use Rattle.std.proofs.Common.{◌∙◌, ap}
use Rattle.fx_inequalities.specs.CertificateText.{bundle_text}
use Rattle.fx_cert.specs.CertificateView.{certificate_of}
use Rattle.fx_cert_text.proofs.PrintedTexts.{printed_lawful}
use Rattle.fx_cert_text.proofs.print.print_bundle.Goals as goal

pub returns-in-Ok : goal.returns-in-Ok
returns-in-Ok c = record {
  text = λ h. c.in-Ok.ensures
      ∙ ap (bundle_text c.args.source.now c.args.program.now)
      (printed_lawful (certificate_of c.args.certificate.now) h);
}
