use Rattle.std.proofs.Common.{◌∙◌, ◌+◌, sym, arith}
use Rattle.fx_calm.proofs.Decided.{left_next}
use Rattle.fx_calm.proofs.long_division.left.Goals as goal

pub loop-i-preserved : goal.loop-i-preserved
loop-i-preserved c =
    let e = left_next c.loop-i.i c.args.summands.now _ c.loop-i-test.true in
    let v = c.one-count.ensures.value in let f = c.one-count.ensures.few in
    ((λ i. c.loop-i.invariant.0 i + v i) ∙ sym e, (let b = c.loop-i.invariant.1 in omega (arith, b, f)))
