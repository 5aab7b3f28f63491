-- What contracts see of a bundle.
use Rattle.std.specs.Prelude.{ℕ, ◌≤◌, List, length}
use Rattle.fx_model.specs.Limits.{source_limit}
use Rattle.fx_model.specs.Machine.{Program}
use Rattle.fx_inequalities.specs.Certificate as model
use Rattle.fx_inequalities.specs.CertificateText.{bundle_text}
use Rattle.fx_inequalities.specs.LawfulCertificate.{IsLawfulCertificate}
use Rattle.fx_program.specs.ProgramView.{IsSpelled}
use Rattle.fx_cert_text.specs.declared.bundle.Bundle.{Bundle}
use Rattle.fx_cert.specs.CertificateView.{certificate_of}

-- the source's bytes, the machine's program, and the certificate
pub record Parts : Type 0 where
  pub source : List ℕ
  pub program : Program
  pub certificate : model.Certificate

-- those of a bundle
abbrev pub bundle_of : Bundle → Parts
bundle_of b = record { source = b.source; program = b.program; certificate = certificate_of b.certificate }

-- its one text
abbrev pub text_of : Parts → List ℕ
text_of b = bundle_text b.source b.program b.certificate

-- what a text can spell: any source that isn't too long, a lawful program and a lawful certificate
pub record IsLawfulBundle (b : Parts) : Type 0 where
  pub source : length b.source ≤ source_limit
  pub program : IsSpelled b.program
  pub certificate : IsLawfulCertificate b.certificate
