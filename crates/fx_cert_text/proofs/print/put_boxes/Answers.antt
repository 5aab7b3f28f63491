use Rattle.fx_model.specs.LineText.{line_text}
use Rattle.fx_inequalities.specs.CertificateText.{box_fields}
use Rattle.fx_cert.specs.CertificateView.{template_view}
use Rattle.fx_cert_text.proofs.Written.{one_more, no_more}
use Rattle.fx_cert_text.proofs.print.put_boxes.Goals as goal

pub loop-template-preserved : goal.loop-template-preserved
loop-template-preserved c =
    one_more (λ x. line_text (box_fields (template_view x))) c.args.templates.now c.loop-template.template-index c.template-item.result c.args.out.now.items
    c.loop-template.out.items c.put_box.new.out.items c.loop-template-test.true c.template-item.is c.loop-template.invariant
    c.in_ok-put_box.ensures

pub returns : goal.returns
returns c =
    no_more (λ x. line_text (box_fields (template_view x))) c.args.templates.now c.loop-template.template-index c.args.out.now.items c.loop-template.out.items
    c.loop-template-test.false c.loop-template.invariant
