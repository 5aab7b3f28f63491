use Rattle.std.proofs.Common.{arith, subst}
use Rattle.fx_inequalities.specs.Formula.{point}
use Rattle.fx_formulas.specs.Judging.{FormsSpan}
use Rattle.fx_formulas.proofs.Shorts.{short_within, short_point}
use Rattle.fx_cert.specs.CertificateView.{boxes_in}
use Rattle.fx_cert.specs.declared.side.Side.{Side}
use Rattle.fx_conditions.proofs.Shorts.{template_coef_short}
use Rattle.fx_template_conditions.specs.Boxes.{box_at}
use Rattle.fx_template_conditions.specs.CertificateSide.{templates_on}
use Rattle.fx_template_conditions.proofs.Boxes.{box_short}
use Rattle.fx_template_conditions.proofs.start.box_summand.Goals as goal

pub returns : goal.returns
returns c =
    let a = c.args in let d = a.side.now in let bs = boxes_in a.starts.now in
    let coef = (templates_on d).coef a.i a.s in
    let box = subst (λ (w : Side). FormsSpan c.box_of.result (box_at w bs a.s)) c.which.ensures c.box_of.ensures in
    c.times.ensures (point coef) (box_at d.which bs a.s)
    (short_point (short_within 512 (omega arith)
    (template_coef_short d.templates c.keeps.ensures.templates d.states a.i a.s)))
    (box_short d.which bs c.requires.starts a.s) (c.point.ensures coef c.coef.ensures) box
