use Rattle.fx_inequalities.specs.Formula.{point, span_product, zero_span}
use Rattle.fx_inequalities.specs.Affine.{weighted_sum}
use Rattle.fx_cert.specs.CertificateView.{boxes_in}
use Rattle.fx_conditions.proofs.Sums.{one_more}
use Rattle.fx_template_conditions.specs.Boxes.{box_at}
use Rattle.fx_template_conditions.specs.CertificateSide.{templates_on}
use Rattle.fx_template_conditions.proofs.start.box_sum.Goals as goal

pub loop-s-preserved : goal.loop-s-preserved
loop-s-preserved c =
    let a = c.args in let d = a.side.now in let s = c.loop-s.s in let f = (templates_on d).coef a.i in
    let v = box_at d.which (boxes_in a.starts.now) in
    one_more c.plus-total.result zero_span s f v
    (c.plus-total.ensures (weighted_sum zero_span s f v) (span_product (point (f s)) (v s)) c.loop-s.invariant
    c.box_summand.ensures)
