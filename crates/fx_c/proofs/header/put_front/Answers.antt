use Rattle.std.proofs.Common.{◌++◌, ◌∙◌, ap, append_assoc}
use Rattle.fx_model.specs.Machine.{Program}
use Rattle.fx_c99.specs.CHeader.{opening_text, count_macros}
use Rattle.fx_c.proofs.header.put_front.Goals as goal

pub returns : goal.returns
returns c =
    let p = c.program.inside in let q = c.args.program.now in let old = c.args.out.now.items in
    let t = c.title.ensures in let u = c.title-2.ensures in
    let counts = count_macros c.title-2.result.now p.width p.inputs p.states p.outputs in
    c.in_ok-put_count_macros.ensures ∙ ap (λ o. o ++ counts) c.in_ok-put_opening.ensures
    ∙ append_assoc old (opening_text c.title.result.now p.width) counts
    ∙ (λ i. old ++ (opening_text (t i) p.width ++ count_macros (u i) p.width p.inputs p.states p.outputs))
    ∙ ap (λ (r : Program). old
    ++ (opening_text q.name r.width ++ count_macros q.name r.width r.inputs r.states r.outputs)) c.program.view_is
