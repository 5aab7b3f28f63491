use Rattle.std.proofs.Common.{◌∙◌, ◌++◌, ap, append_assoc}
use Rattle.fx_model.specs.LineText.{numbered_lines}
use Rattle.fx_demo.specs.Source.{head_text, result_text, temp_line}
use Rattle.fx_demo.proofs.source.put_source.Goals as goal

pub returns : goal.returns
returns c =
    let o = c.args.out.now.items in let h = head_text in let t = numbered_lines temp_line 1 c.args.n in
    let r = result_text c.args.n in
    c.in_ok-put_result.ensures
    ∙ ap (λ o2. o2 ++ r) (c.in_ok-put_temps.ensures ∙ ap (λ o1. o1 ++ t) c.in_ok-put_head.ensures
    ∙ append_assoc o h t) ∙ append_assoc o (h ++ t) r
