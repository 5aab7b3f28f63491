use Rattle.fx_model.specs.LineText.{line_text}
use Rattle.fx_inequalities.specs.CertificateText.{start_fields}
use Rattle.fx_cert.specs.CertificateView.{box_of}
use Rattle.fx_cert_text.proofs.Written.{one_more, no_more}
use Rattle.fx_cert_text.proofs.print.put_starts.Goals as goal

pub loop-start-preserved : goal.loop-start-preserved
loop-start-preserved c =
    one_more (λ x. line_text (start_fields (box_of x))) c.args.starts.now c.loop-start.start-index c.start-item.result c.args.out.now.items
    c.loop-start.out.items c.put_start.new.out.items c.loop-start-test.true c.start-item.is c.loop-start.invariant
    c.in_ok-put_start.ensures

pub returns : goal.returns
returns c =
    no_more (λ x. line_text (start_fields (box_of x))) c.args.starts.now c.loop-start.start-index c.args.out.now.items c.loop-start.out.items
    c.loop-start-test.false c.loop-start.invariant
