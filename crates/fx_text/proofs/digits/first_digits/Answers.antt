use Rattle.std.proofs.Common.{get_or, arith}
use Rattle.core.proofs.slice.Prefixes.{drop_more, prefix_len-drop_yes}
use Rattle.core.proofs.dec2flt.DigitsLemmas.{HasRead_more, is_digit}
use Rattle.fx_text.proofs.digits.first_digits.Goals as goal

pub loop-at-preserved : goal.loop-at-preserved
loop-at-preserved c =
    let bs = c.args.text.now in
    let at = c.loop-at.at in
    let byte = (c.type_inv.text at).fits in
    let d = is_digit (get_or bs at 0) (omega arith) (omega arith) in
    HasRead_more bs _ _ at _ 1 _ c.loop-at.invariant (omega arith)
    (prefix_len-drop_yes _ bs at 0 c.loop-at-test.true d.0)
    (rw (drop_more bs at 0 c.loop-at-test.true) (omega arith))
