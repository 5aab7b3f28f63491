use Rattle.std.specs.Option.{option_map}
use Rattle.fx_model.specs.LineText.{line_text}
use Rattle.fx_inequalities.specs.CertificateText.{node_fields}
use Rattle.fx_cert.specs.CertificateView.{form_view, line_view}
use Rattle.fx_cert_text.proofs.Written.{one_more, no_more}
use Rattle.fx_cert_text.proofs.print.put_nodes.Goals as goal

pub loop-line-preserved : goal.loop-line-preserved
loop-line-preserved c =
    one_more (λ x. line_text (node_fields (line_view x) (option_map form_view x.form))) c.args.lines.now c.loop-line.line-index c.line-item.result c.args.out.now.items
    c.loop-line.out.items c.put_node.new.out.items c.loop-line-test.true c.line-item.is c.loop-line.invariant
    c.in_ok-put_node.ensures

pub returns : goal.returns
returns c =
    no_more (λ x. line_text (node_fields (line_view x) (option_map form_view x.form))) c.args.lines.now c.loop-line.line-index c.args.out.now.items c.loop-line.out.items
    c.loop-line-test.false c.loop-line.invariant
