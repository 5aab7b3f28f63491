use Rattle.std.proofs.Common.{arith, rules}
use Rattle.fx_model.specs.Machine.{Floor}
use Rattle.fx_lanes.proofs.Filled.{product_next, product_operands, products_made}
use Rattle.fx_lanes.proofs.lane_by_lane.lowered_products.Goals as goal

pub lowered_product-requires : goal.lowered_product-requires
lowered_product-requires g c =
    let r = c.requires in
    let p = product_operands c.loop-k.k r.width.most r.left r.right c.loop-k-test.true Floor c.args.s r.fits in
    record { width = r.width; left = p.left; right = p.right; shift = r.shift; fits = p.fits }

pub loop-k-preserved : goal.loop-k-preserved
loop-k-preserved g c =
    let r = c.requires in let l = c.loop-k in
    product_next l.k r.width.most r.left r.right c.loop-k-test.true Floor c.args.s l.words c.lowered_product.result
    (search rules) c.lowered_product.ensures l.invariant

pub returns : goal.returns
returns g c =
    let l = c.loop-k in
    products_made c.requires.left c.requires.right c.args.s l.k l.words (omega (arith, c.loop-k-test.false)) Floor
    l.invariant
