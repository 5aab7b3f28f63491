use Rattle.fx_cert_text.specs.BundleView.{bundle_of}
use Rattle.fx_cert_text.proofs.BundleLaws.{text_takes}
use Rattle.fx_cert_text.proofs.bundle_text.read_bundle.Goals as goal

pub returns-clause-lawful : goal.returns-clause-lawful
returns-clause-lawful c = (text_takes c.args.bytes.now (bundle_of c.in_ok-bundle.bundle) c.in_ok-bundle.ensures).1
