use Rattle.fx_inequalities.specs.LawfulCertificate.{IsWrittenBox}
use Rattle.fx_cert.specs.declared.certificate.StartBox.{StartBox}
use Rattle.fx_cert.specs.CertificateView.{box_of}
use Rattle.fx_cert.proofs.Tested.{all_so, one_more_so}
use Rattle.fx_cert.proofs.lawful.are_boxes.Goals as goal

pub loop-start-preserved : goal.loop-start-preserved
loop-start-preserved c =
    one_more_so (λ (b : StartBox). IsWrittenBox (box_of b)) c.args.starts.now c.loop-start.start-index
    c.start-item.result c.loop-start-test.true c.start-item.is (c.is_box.ensures c.if-not-is_box.false)
    c.loop-start.invariant

pub returns : goal.returns
returns c = λ _.
    all_so (λ (b : StartBox). IsWrittenBox (box_of b)) c.args.starts.now c.loop-start.start-index
    c.loop-start-test.false c.loop-start.invariant
