use Rattle.fx_cert_text.proofs.BundleLaws.{bundle_law}
use Rattle.fx_cert_text.proofs.law.bundle_law.Goals as goal

pub returns : goal.returns
returns c = bundle_law
