use Rattle.std.proofs.Common.{◌∙◌, ◌+◌, ◌-◌, ◌++◌, ap, sym, append_assoc}
use Rattle.fx_model.specs.LineText.{numbered_lines}
use Rattle.fx_demo.specs.Rows.{row_line}
use Rattle.fx_model.proofs.Listed.{next_line}
use Rattle.fx_demo.proofs.rows.put_rows.Goals as goal

pub loop-r-preserved : goal.loop-r-preserved
loop-r-preserved c =
    let r = c.loop-r.r in
    ap (λ o. o ++ numbered_lines row_line (r + 1) (1001 - (r + 1))) c.in_ok-put_row.ensures
    ∙ append_assoc c.loop-r.out.items (row_line r) (numbered_lines row_line (r + 1) (1001 - (r + 1)))
    ∙ ap (λ t. c.loop-r.out.items ++ t) (sym (next_line row_line 1001 r c.loop-r-test.true)) ∙ c.loop-r.invariant
