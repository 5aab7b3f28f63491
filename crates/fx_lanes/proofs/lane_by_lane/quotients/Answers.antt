use Rattle.std.proofs.Common.{arith, rules}
use Rattle.fx_lanes.proofs.Filled.{quotient_next, quotient_operands, quotients_made, quotients_words}
use Rattle.fx_lanes.proofs.lane_by_lane.quotients.Goals as goal

pub quotient-requires : goal.quotient-requires
quotient-requires g c =
    let r = c.requires in
    let p = quotient_operands c.loop-k.k r.width.most r.left r.right c.loop-k-test.true c.args.s r.fits in
    record { width = r.width; left = p.left; right = p.right; shift = r.shift; fits = p.fits }

pub loop-k-preserved : goal.loop-k-preserved
loop-k-preserved g c =
    let r = c.requires in let l = c.loop-k in
    quotient_next l.k r.width.most r.left r.right c.loop-k-test.true c.args.s l.words c.quotient.result (search rules)
    c.quotient.ensures.value l.invariant

pub returns-clause-some : goal.returns-clause-some
returns-clause-some g c =
    let r = c.requires in let l = c.loop-k in
    quotients_made r.left r.right c.args.s l.k l.words (omega (arith, c.loop-k-test.false)) l.invariant

pub returns-clause-words : goal.returns-clause-words
returns-clause-words g c =
    let r = c.requires in let l = c.loop-k in
    quotients_words r.left r.right c.args.s l.k l.words (omega (arith, c.loop-k-test.false)) l.invariant r.fits
