use Rattle.std.proofs.Common.{◌≡◌, ◌∷◌, [], ◌++◌, ◌∙◌, List, ℕ, length, ap, append_assoc, codes}
use Rattle.std.specs.Fmt.{decimal}
use Rattle.std.specs.List.{flat_map}
use Rattle.fx_model.specs.LineText.{line_text}
use Rattle.fx_inequalities.specs.CertificateText.{node_fields, templates_text}
use Rattle.fx_program.proofs.Appended.{two}
use Rattle.fx_cert.specs.CertificateView.{certificate_of}
use Rattle.fx_cert_text.specs.Printing.{as_printed, front_text, back_text}
use Rattle.fx_cert_text.proofs.print.put_certificate.Goals as goal

regroup : (f a b c d : List ℕ) → f ++ (((a ++ b) ++ c) ++ d) ≡ (((f ++ a) ++ b) ++ c) ++ d
regroup f a b c d = simp append_assoc

pub returns : goal.returns
returns c =
    let k = as_printed (certificate_of c.args.certificate.now) in
    two c.args.out.now.items c.put_front.new.out.items c.put_back.new.out.items (front_text k)
    (back_text k) c.in_ok-put_front.ensures c.in_ok-put_back.ensures
    ∙ ap (λ t. c.args.out.now.items ++ t)
    (regroup (front_text k)
    (line_text (codes "rows" ∷ decimal (length k.templates) ∷ decimal (length k.error_templates) ∷ []))
    (templates_text k.states k.templates) (templates_text k.states k.error_templates)
    (flat_map (λ l. line_text (node_fields l l.form)) k.lines))
