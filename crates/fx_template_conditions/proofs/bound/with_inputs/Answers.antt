use Rattle.std.proofs.Common.{◌<◌, arith}
use Rattle.fx_inequalities.specs.Formula.{point, span_product}
use Rattle.fx_inequalities.specs.Affine.{weighted_sum}
use Rattle.fx_conditions.proofs.Sums.{one_more}
use Rattle.fx_template_conditions.specs.CertificateSide.{spans_on}
use Rattle.fx_template_conditions.proofs.bound.with_inputs.Goals as goal

pub loop-j-preserved : goal.loop-j-preserved
loop-j-preserved c = λ n f z le formed start.
    let j = c.loop-j.j in let v = spans_on c.args.side.now in
    let within : j < n = omega (arith, c.loop-j-test.true, c.inputs-j-end.ensures, le) in
    one_more c.plus-total.result z j f v
    (c.plus-total.ensures (weighted_sum z j f v) (span_product (point (f j)) (v j))
    (c.loop-j.invariant n f z le formed start) (c.variable_product.ensures n f within formed))
