use Rattle.std.proofs.Common.{◌∙◌, ◌<◌, ◌+◌, ◌-◌, ◌++◌, length, ap, sym, subst, append_assoc}
use Rattle.fx_model.specs.LineText.{numbered_lines}
use Rattle.fx_bundle_commands.specs.commands.Show.{shown_line}
use Rattle.fx_model.proofs.Listed.{next_line}
use Rattle.fx_bundle_commands.proofs.table.put_codes.Goals as goal

pub loop-n-preserved : goal.loop-n-preserved
loop-n-preserved c =
    let a = c.args.certified.now in let line = shown_line a.program a.certificate in let m = length a.program.codes in
    let n = c.loop-n.n in
    let below : n < m = subst (λ k. n < k) c.codes_of-count.ensures c.loop-n-test.true in
    ap (λ o. o ++ numbered_lines line (n + 1) (m - (n + 1))) c.in_ok-put_code.ensures
    ∙ append_assoc c.loop-n.out.items (line n) (numbered_lines line (n + 1) (m - (n + 1)))
    ∙ ap (λ t. c.loop-n.out.items ++ t) (sym (next_line line m n below)) ∙ c.loop-n.invariant
