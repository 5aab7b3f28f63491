use Rattle.std.proofs.Common.{◌≡◌, ◌∷◌, [], ◌++◌, ◌∙◌, sym, ap, length, map, codes}
use Rattle.std.specs.Fmt.{decimal}
use Rattle.std.specs.List.{flat_map}
use Rattle.std.proofs.lemmas.List.{length-map}
use Rattle.std.proofs.lemmas.List.Folds.{flat_map-map}
use Rattle.fx_model.specs.LineText.{line_text}
use Rattle.fx_inequalities.specs.CertificateText.{step_fields, start_fields}
use Rattle.fx_step.specs.StepView.{step_view}
use Rattle.fx_program.proofs.Appended.{five}
use Rattle.fx_cert.specs.CertificateView.{box_of, line_view}
use Rattle.fx_cert_text.specs.Printing.{printed_step}
use Rattle.fx_cert_text.proofs.print.put_front.Goals as goal

pub returns : goal.returns
returns c =
    let k = c.args.certificate.now in
    let o1 = c.begin_line.new.out.items in let o2 = c.put_three.new.out.items in let o3 = c.put_one.new.out.items in
    let o4 = c.put_steps.new.out.items in let o5 = c.put_starts.new.out.items in
    let steps = flat_map (λ s. line_text (step_fields s)) (map printed_step (map step_view k.steps)) in
    let starts = flat_map (λ b. line_text (start_fields b)) (map box_of k.starts) in
    let sizes : o2 ≡ o1 ++ line_text
    (codes "sizes" ∷ decimal k.inputs ∷ decimal k.states ∷ decimal (length (map line_view k.lines)) ∷ []) =
    c.in_ok-put_three.ensures
    ∙ ap (λ n. o1 ++ line_text (codes "sizes" ∷ decimal k.inputs ∷ decimal k.states ∷ decimal n ∷ []))
    (c.len-node_count.ensures ∙ sym (length-map k.lines line_view)) in
    let count : o3 ≡ o2 ++ line_text
    (codes "steps" ∷ decimal (length (map printed_step (map step_view k.steps))) ∷ []) =
    c.in_ok-put_one.ensures
    ∙ ap (λ n. o2 ++ line_text (codes "steps" ∷ decimal n ∷ [])) (c.len-step_count.ensures
    ∙ sym (length-map k.steps step_view) ∙ sym (length-map (map step_view k.steps) printed_step)) in
    let d : o4 ≡ o3 ++ steps =
    c.in_ok-put_steps.ensures
    ∙ ap (λ ss. o3 ++ flat_map (λ s. line_text (step_fields (printed_step (step_view s)))) ss) c.as_slice.ensures
    ∙ ap (λ t. o3 ++ t) (sym (flat_map-map (λ s. line_text (step_fields (printed_step s))) step_view k.steps)
    ∙ sym (flat_map-map (λ s. line_text (step_fields s)) printed_step (map step_view k.steps))) in
    let e : o5 ≡ o4 ++ starts =
    c.in_ok-put_starts.ensures
    ∙ ap (λ bs. o4 ++ flat_map (λ b. line_text (start_fields (box_of b))) bs) c.as_slice-2.ensures
    ∙ ap (λ t. o4 ++ t) (sym (flat_map-map (λ b. line_text (start_fields b)) box_of k.starts)) in
    five c.args.out.now.items o1 o2 o3 o4 o5 (line_text (codes "fixd" ∷ codes "certificate" ∷ codes "1" ∷ []))
    (line_text (codes "sizes" ∷ decimal k.inputs ∷ decimal k.states ∷ decimal (length (map line_view k.lines)) ∷ []))
    (line_text (codes "steps" ∷ decimal (length (map printed_step (map step_view k.steps))) ∷ [])) steps starts
    c.in_ok-begin_line.ensures sizes count d e
