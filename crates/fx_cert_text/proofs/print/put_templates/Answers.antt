use Rattle.std.proofs.Common.{◌≡◌, ◌++◌, ◌-◌, ◌∙◌, ap, length, take, drop, arith}
use Rattle.std.proofs.lemmas.List.{length-drop, take_all}
use Rattle.std.specs.List.{flat_map}
use Rattle.fx_model.specs.LineText.{line_text}
use Rattle.fx_inequalities.specs.CertificateText.{box_fields, template_fields}
use Rattle.fx_program.proofs.Appended.{two}
use Rattle.fx_cert.specs.CertificateView.{template_view}
use Rattle.fx_cert_text.proofs.PrintedTexts.{templates_text-is}
use Rattle.fx_cert_text.proofs.print.put_templates.Goals as goal

pub returns : goal.returns
returns c =
    let templates = c.args.templates.now in let old = c.args.out.now.items in let n = c.min-k.result in
    let whole : take (length templates - n) (drop n templates) ≡ drop n templates =
    take_all (length templates - n) (drop n templates) (omega (arith, length-drop n templates)) in
    let others : c.put_others.new.out.items ≡ c.put_boxes.new.out.items
    ++ flat_map (λ r. line_text (template_fields (template_view r))) (drop n templates) = c.in_ok-put_others.ensures
    ∙ ap (λ rs. c.put_boxes.new.out.items
    ++ flat_map (λ r. line_text (template_fields (template_view r))) rs) whole in
    two old c.put_boxes.new.out.items c.put_others.new.out.items
    (flat_map (λ r. line_text (box_fields (template_view r))) (take n templates))
    (flat_map (λ r. line_text (template_fields (template_view r)))
    (drop n templates)) c.in_ok-put_boxes.ensures others
    ∙ ap (λ t. old ++ t) (ap
    (λ n. flat_map (λ r. line_text (box_fields (template_view r))) (take n templates)
    ++ flat_map (λ r. line_text (template_fields (template_view r))) (drop n templates)) c.min-k.ensures
    ∙ templates_text-is c.args.states templates)
