-- The laws of certificate and bundle texts: each value has one text, and a text at most one value.
use Rattle.std.specs.Prelude.{◌≡◌, ℕ, List, Ok}
use Rattle.fx_inequalities.specs.Certificate.{Certificate}
use Rattle.fx_inequalities.specs.CertificateText.{certificate_text}
use Rattle.fx_inequalities.specs.LawfulCertificate.{IsLawfulCertificate}
use Rattle.fx_text.specs.Spelling.{IsOneSpelling}
use Rattle.fx_cert_text.specs.BundleView.{Parts, IsLawfulBundle, text_of}
use Rattle.fx_cert_text.specs.CertificateReading.{certificate_at, certificate_in}
use Rattle.fx_cert_text.specs.BundleReading.{bundle_at, bundle_in}

-- a certificate at the front of a text, whatever follows
abbrev pub CertificateLaw : Type 0
CertificateLaw = (n : ℕ) → IsOneSpelling (certificate_at n) certificate_text IsLawfulCertificate

-- what is read of a whole text is spelled so, and lawful
abbrev pub CertificateTakes : Type 0
CertificateTakes = (text : List ℕ) (c : Certificate) → certificate_in text ≡ Ok c →
    (text ≡ certificate_text c) × IsLawfulCertificate c

-- what is lawful is read from its text
abbrev pub CertificateAgain : Type 0
CertificateAgain = (c : Certificate) → IsLawfulCertificate c → certificate_in (certificate_text c) ≡ Ok c

-- the same of bundles
abbrev pub BundleLaw : Type 0
BundleLaw = IsOneSpelling bundle_at text_of IsLawfulBundle

abbrev pub BundleTakes : Type 0
BundleTakes = (text : List ℕ) (b : Parts) → bundle_in text ≡ Ok b → (text ≡ text_of b) × IsLawfulBundle b

abbrev pub BundleAgain : Type 0
BundleAgain = (b : Parts) → IsLawfulBundle b → bundle_in (text_of b) ≡ Ok b
