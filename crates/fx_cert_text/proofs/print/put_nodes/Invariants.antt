use Rattle.std.proofs.Common.{◌≡◌, ◌++◌, take}
use Rattle.std.specs.List.{flat_map}
use Rattle.fx_model.specs.LineText.{line_text}
use Rattle.std.specs.Option.{option_map}
use Rattle.fx_inequalities.specs.CertificateText.{node_fields}
use Rattle.fx_cert.specs.CertificateView.{form_view, line_view}
use Rattle.fx_cert_text.proofs.print.put_nodes.Given as goal

abbrev pub invariant-loop-line : goal.invariant-loop-line
invariant-loop-line l =
    l.out.items ≡ l.fn.out.items ++ flat_map (λ x. line_text (node_fields (line_view x) (option_map form_view x.form)))
    (take l.line-index l.lines)
