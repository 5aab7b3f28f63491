use Rattle.std.proofs.Common.{◌+◌, arith}
use Rattle.fx_formulas.proofs.Shorts.{short_within}
use Rattle.fx_conditions.proofs.Shorts.{coef_short, template_coef_short}
use Rattle.fx_template_conditions.specs.CertificateSide.{form_on, templates_on}
use Rattle.fx_template_conditions.proofs.template.summand.Goals as goal

pub returns : goal.returns
returns c =
    let a = c.args in let d = a.side.now in
    c.product.ensures ((templates_on d).coef a.i a.s) ((form_on d a.n).coef a.j)
    (short_within 512 (omega arith) (template_coef_short d.templates c.keeps.ensures.templates d.states a.i a.s))
    (short_within 512 (omega arith) (coef_short d.lines c.keeps.ensures.lines (d.inputs + d.states) a.n a.j))
    c.coef.ensures c.node_coef.ensures
