use Rattle.fx_cert.specs.CertificateView.{certificate_of}
use Rattle.fx_cert_text.proofs.CertificateLaws.{certificate_law}
use Rattle.fx_cert_text.proofs.read.certificate_at.Goals as goal

pub returns-clause-lawful : goal.returns-clause-lawful
returns-clause-lawful c =
    ((certificate_law c.args.line).takes c.args.text.now (
      certificate_of c.in_ok-certificate.certificate,
      c.in_ok-certificate.rest.now,
    ) c.in_ok-certificate.ensures).1
