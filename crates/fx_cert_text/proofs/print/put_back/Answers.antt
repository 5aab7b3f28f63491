use Rattle.std.proofs.Common.{◌≡◌, ◌∷◌, [], ◌++◌, ◌∙◌, sym, ap, length, map, codes}
use Rattle.std.specs.Fmt.{decimal}
use Rattle.std.specs.List.{flat_map}
use Rattle.std.specs.Option.{option_map}
use Rattle.std.proofs.lemmas.List.{length-map}
use Rattle.std.proofs.lemmas.List.Folds.{flat_map-map}
use Rattle.fx_model.specs.LineText.{line_text}
use Rattle.fx_inequalities.specs.CertificateText.{node_fields, templates_text}
use Rattle.fx_program.proofs.Appended.{four}
use Rattle.fx_cert.specs.CertificateView.{form_view, line_view, template_view, templates_in}
use Rattle.fx_cert_text.proofs.print.put_back.Goals as goal

pub returns : goal.returns
returns c =
    let k = c.args.certificate.now in let o0 = c.args.out.now.items in
    let o1 = c.put_two.new.out.items in let o2 = c.put_templates.new.out.items in
    let o3 = c.put_templates-2.new.out.items in let o4 = c.put_nodes.new.out.items in
    let counts : o1 ≡ o0 ++ line_text
    (codes "rows" ∷ decimal (length (templates_in k.templates)) ∷ decimal (length (templates_in k.error_templates))
    ∷ []) =
    c.in_ok-put_two.ensures
    ∙ ap (λ n. o0 ++ line_text (codes "rows" ∷ decimal n ∷ decimal c.len-error_count.result ∷ []))
    (c.len-template_count.ensures ∙ sym (length-map k.templates template_view))
    ∙ ap (λ n. o0 ++ line_text (codes "rows" ∷ decimal (length (templates_in k.templates)) ∷ decimal n ∷ []))
    (c.len-error_count.ensures ∙ sym (length-map k.error_templates template_view)) in
    let templates : o2 ≡ o1 ++ templates_text k.states (templates_in k.templates) = c.in_ok-put_templates.ensures
    ∙ ap (λ rs. o1 ++ templates_text k.states (templates_in rs)) c.as_slice.ensures in
    let errors : o3 ≡ o2 ++ templates_text k.states (templates_in k.error_templates) = c.in_ok-put_templates-2.ensures
    ∙ ap (λ rs. o2 ++ templates_text k.states (templates_in rs)) c.as_slice-2.ensures in
    let nodes : o4 ≡ o3 ++ flat_map (λ l. line_text (node_fields l l.form)) (map line_view k.lines) =
    c.in_ok-put_nodes.ensures
    ∙ ap (λ ls. o3 ++ flat_map
    (λ l. line_text (node_fields (line_view l) (option_map form_view l.form))) ls) c.as_slice-3.ensures
    ∙ ap (λ t. o3 ++ t) (sym (flat_map-map (λ l. line_text (node_fields l l.form)) line_view k.lines)) in
    four o0 o1 o2 o3 o4 (line_text
    (codes "rows" ∷ decimal (length (templates_in k.templates)) ∷ decimal (length (templates_in k.error_templates))
    ∷ [])) (templates_text k.states (templates_in k.templates)) (templates_text k.states
    (templates_in k.error_templates))
    (flat_map (λ l. line_text (node_fields l l.form)) (map line_view k.lines)) counts templates errors nodes
