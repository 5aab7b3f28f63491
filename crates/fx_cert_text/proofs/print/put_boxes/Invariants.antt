use Rattle.std.proofs.Common.{◌≡◌, ◌++◌, take}
use Rattle.std.specs.List.{flat_map}
use Rattle.fx_model.specs.LineText.{line_text}
use Rattle.fx_inequalities.specs.CertificateText.{box_fields}
use Rattle.fx_cert.specs.CertificateView.{template_view}
use Rattle.fx_cert_text.proofs.print.put_boxes.Given as goal

abbrev pub invariant-loop-template : goal.invariant-loop-template
invariant-loop-template l =
    l.out.items ≡ l.fn.out.items ++ flat_map (λ x. line_text (box_fields (template_view x)))
    (take l.template-index l.templates)
