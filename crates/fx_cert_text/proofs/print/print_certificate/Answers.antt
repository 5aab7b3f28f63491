use Rattle.std.proofs.Common.{◌∙◌, ap}
use Rattle.fx_inequalities.specs.CertificateText.{certificate_text}
use Rattle.fx_cert.specs.CertificateView.{certificate_of}
use Rattle.fx_cert_text.proofs.PrintedTexts.{printed_lawful}
use Rattle.fx_cert_text.proofs.print.print_certificate.Goals as goal

pub returns-in-Ok : goal.returns-in-Ok
returns-in-Ok c = record {
  text = λ h. c.in-Ok.ensures
      ∙ ap certificate_text (printed_lawful (certificate_of c.args.certificate.now) h);
}
