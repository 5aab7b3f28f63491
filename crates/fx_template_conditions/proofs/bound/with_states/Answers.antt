use Rattle.std.proofs.Common.{◌<◌, arith}
use Rattle.fx_inequalities.specs.Formula.{point, span_product}
use Rattle.fx_inequalities.specs.Affine.{weighted_sum}
use Rattle.fx_conditions.proofs.Sums.{one_more}
use Rattle.fx_template_conditions.specs.CertificateSide.{templates_on}
use Rattle.fx_template_conditions.proofs.bound.with_states.Goals as goal

pub loop-k-preserved : goal.loop-k-preserved
loop-k-preserved c = λ f z left short start.
    let k = c.loop-k.k in let s = c.args.side.now in let rs = templates_on s in
    let within : k < s.states = omega (arith, c.loop-k-test.true, c.states-k-end.ensures) in
    one_more c.plus-total.result z k f rs.bound
    (c.plus-total.ensures (weighted_sum z k f rs.bound) (span_product (point (f k)) (rs.bound k))
    (c.loop-k.invariant f z left short start)
    (c.state_product.ensures f left (short k within)))
