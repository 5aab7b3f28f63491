use Rattle.std.proofs.Common.{◌≡◌, ℕ, ◌+◌, ◌<◌, length, arith, rules}
use Rattle.fx_inequalities.specs.Formula.{Product}
use Rattle.fx_inequalities.specs.Affine.{sum_of}
use Rattle.fx_conditions.proofs.Shorts.{coef_short, template_coef_short}
use Rattle.fx_template_conditions.proofs.Shares.{set_formed, sum_short, all_formed}
use Rattle.fx_template_conditions.specs.CertificateSide.{form_on, templates_on}
use Rattle.fx_formulas.proofs.Shorts.{short_product}
use Rattle.fx_template_conditions.proofs.template.template_coefs.Goals as goal

pub loop-j-preserved : goal.loop-j-preserved
loop-j-preserved c =
    let a = c.args in let d = a.side.now in let j = c.loop-j.j in
    let f = λ (k : ℕ). sum_of d.states
    (λ s. Product ((templates_on d).coef a.i s) ((form_on d (a.next + s)).coef k)) in
    let room : j < length c.loop-j.coefs = search rules in
    let short =
    sum_short d.states (λ s. Product ((templates_on d).coef a.i s) ((form_on d (a.next + s)).coef j)) 192
    (λ s. short_product (template_coef_short d.templates c.keeps.ensures.templates d.states a.i s)
    (coef_short d.lines c.keeps.ensures.lines (d.inputs + d.states) (a.next + s) j)) in
    set_formed c.loop-j.coefs j f c.template_coefficient.result c.loop-j.invariant room c.template_coefficient.ensures
    short

pub returns : goal.returns
returns c =
    let a = c.args in let d = a.side.now in
    let f = λ (k : ℕ). sum_of d.states
    (λ s. Product ((templates_on d).coef a.i s) ((form_on d (a.next + s)).coef k)) in
    let all : c.loop-j.j ≡ d.inputs + d.states = omega (arith, c.variables-j-end.ensures.value) in
    all_formed c.loop-j.coefs c.loop-j.j (d.inputs + d.states) f all c.loop-j.invariant
