use Rattle.std.proofs.Common.{◌∙◌, ◌+◌, ◌-◌, ◌++◌, ap, sym, append_assoc}
use Rattle.fx_model.specs.LineText.{numbered_lines}
use Rattle.fx_demo.specs.Source.{temp_line}
use Rattle.fx_model.proofs.Listed.{next_line}
use Rattle.fx_demo.proofs.source.put_temps.Goals as goal

pub loop-i-preserved : goal.loop-i-preserved
loop-i-preserved c =
    let i = c.loop-i.i in let m = c.args.n + 1 in
    ap (λ o. o ++ numbered_lines temp_line (i + 1) (m - (i + 1))) c.in_ok-put_temp.ensures
    ∙ append_assoc c.loop-i.out.items (temp_line i) (numbered_lines temp_line (i + 1) (m - (i + 1)))
    ∙ ap (λ t. c.loop-i.out.items ++ t) (sym (next_line temp_line m i c.loop-i-test.true)) ∙ c.loop-i.invariant
