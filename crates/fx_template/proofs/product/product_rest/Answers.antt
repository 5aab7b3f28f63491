use Rattle.fx_inequalities.specs.Formula.{Num, Product, span, point, span_sum, span_difference, span_product}
use Rattle.fx_template.proofs.Near.{near_sum, near_difference}
use Rattle.fx_template.proofs.product.product_rest.Goals as goal

pub scaled-requires : goal.scaled-requires
scaled-requires c = (near_sum (near_difference (near_sum c.requires).0).0).0

pub scaled-requires-2 : goal.scaled-requires-2
scaled-requires-2 c = (near_sum (near_difference (near_sum c.requires).0).0).1

pub returns : goal.returns
returns c =
    let ma = Num c.args.centres.0 in let mb = Num c.args.centres.1 in
    let pa = span c.args.rests.0 in let pb = span c.args.rests.1 in let ga = span c.args.ranges.0 in
    let gb = span c.args.ranges.1 in
    let rests = span_sum (span_product (point mb) pa) (span_product (point ma) pb) in
    let less = span_difference rests (point (Product ma mb)) in
    let far = span_product (span_difference ga (point ma)) (span_difference gb (point mb)) in
    let near = near_sum {s = less} {t = far} c.requires in
    c.plus.ensures less far
    (c.minus-less.ensures rests (point (Product ma mb))
    (c.plus-rests.ensures (span_product (point mb) pa) (span_product (point ma) pb) c.scaled.ensures c.scaled-2.ensures)
    (c.point.ensures (Product ma mb)
    (c.product.ensures ma mb (near_difference {s = rests} near.0).1.lo c.number.ensures c.number-2.ensures)))
    (c.times.ensures (span_difference ga (point ma))
    (span_difference gb (point mb)) near.1 c.centred.ensures c.centred-2.ensures)
