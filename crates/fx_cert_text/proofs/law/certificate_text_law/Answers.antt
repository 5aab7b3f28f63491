use Rattle.fx_cert_text.proofs.CertificateLaws.{text_takes, text_again}
use Rattle.fx_cert_text.proofs.law.certificate_text_law.Goals as goal

pub returns-clause-takes : goal.returns-clause-takes
returns-clause-takes c = text_takes

pub returns-clause-again : goal.returns-clause-again
returns-clause-again c = text_again
