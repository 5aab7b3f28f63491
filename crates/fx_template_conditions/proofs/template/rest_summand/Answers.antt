use Rattle.std.proofs.Common.{◌+◌, arith}
use Rattle.fx_inequalities.specs.Formula.{point}
use Rattle.fx_formulas.proofs.Shorts.{short_within, short_point}
use Rattle.fx_cert.specs.Sides.{side_rest}
use Rattle.fx_conditions.proofs.Shorts.{template_coef_short, side_rest_short}
use Rattle.fx_template_conditions.specs.CertificateSide.{form_on, templates_on}
use Rattle.fx_template_conditions.proofs.template.rest_summand.Goals as goal

pub returns : goal.returns
returns c =
    let a = c.args in let d = a.side.now in let coef = (templates_on d).coef a.i a.s in
    let rest = side_rest d.which (form_on d a.n) in
    c.times.ensures (point coef) rest
    (short_point (short_within 512 (omega arith)
    (template_coef_short d.templates c.keeps.ensures.templates d.states a.i a.s)))
    (side_rest_short d.which d.lines c.keeps.ensures.lines (d.inputs + d.states) a.n)
    (c.point.ensures coef c.coef.ensures) c.node_rest.ensures
