use Rattle.fx_inequalities.specs.Formula.{zero_span}
use Rattle.fx_inequalities.specs.Affine.{weighted_sum}
use Rattle.fx_cert.specs.CertificateView.{boxes_in}
use Rattle.fx_template_conditions.specs.Boxes.{box_at}
use Rattle.fx_template_conditions.specs.CertificateSide.{templates_on}
use Rattle.fx_template_conditions.proofs.start.start_template_judgement.Goals as goal

pub returns : goal.returns
returns c =
    let a = c.args in let d = a.side.now in let rs = templates_on d in
    c.lies_in.ensures (weighted_sum zero_span d.states (rs.coef a.i) (box_at d.which (boxes_in a.starts.now)))
    (rs.bound a.i) c.box_sum.ensures c.bound.ensures
