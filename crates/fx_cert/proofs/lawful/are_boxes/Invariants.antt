use Rattle.std.proofs.Common.{All, take}
use Rattle.fx_inequalities.specs.LawfulCertificate.{IsWrittenBox}
use Rattle.fx_cert.specs.CertificateView.{box_of}
use Rattle.fx_cert.proofs.lawful.are_boxes.Given as goal

abbrev pub invariant-loop-start : goal.invariant-loop-start
invariant-loop-start l = All (λ b. IsWrittenBox (box_of b)) (take l.start-index l.starts)
