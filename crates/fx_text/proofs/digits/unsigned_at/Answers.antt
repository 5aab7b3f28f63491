use Rattle.std.proofs.Common.{arith}
use Rattle.fx_text.proofs.Spelling.{with_part, whole_alone}
use Rattle.fx_text.proofs.digits.unsigned_at.Goals as goal

pub returns-then-text-point-eq46 : goal.returns-then-text-point-eq46
returns-then-text-point-eq46 c =
    let w = c.first_digits-point.ensures in let p = c.read_digits-end.ensures in
    with_part c.args.text.now c.args.from c.first_digits-point.result.0 c.requires w.end w.within _ _ _
    c.if-point-text.true c.if-text-point-eq46.true w.value
    p.end p.within p.value (omega arith) (omega arith)

pub returns : goal.returns
returns c =
    let w = c.first_digits-point.ensures in
    whole_alone c.args.text.now c.args.from c.first_digits-point.result.0 c.requires w.end w.within _ w.value
    (omega (arith, w.end, c.if-point-from.false)) c.if-point-from-gt-FEW.false
