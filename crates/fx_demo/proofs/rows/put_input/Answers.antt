use Rattle.std.proofs.Common.{◌∙◌, ◌++◌, ap, append_assoc, codes}
use Rattle.fx_model.specs.LineText.{numbered_lines}
use Rattle.fx_demo.specs.Rows.{row_line}
use Rattle.fx_demo.proofs.rows.put_input.Goals as goal

pub returns : goal.returns
returns c =
    let t = numbered_lines row_line 1 1000 in
    c.in_ok-put_rows.ensures ∙ ap (λ o1. o1 ++ t) c.in_ok-extend_from_slice.ensures.items
    ∙ append_assoc c.args.out.now.items (codes "x,y\n") t
