use Rattle.fx_cert_text.proofs.CertificateLaws.{certificate_law}
use Rattle.fx_cert_text.proofs.law.certificate_law.Goals as goal

pub returns : goal.returns
returns c = certificate_law
