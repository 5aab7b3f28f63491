use Rattle.std.proofs.Common.{ℕ, ◌+◌}
use Rattle.fx_inequalities.specs.Formula.{Product}
use Rattle.fx_inequalities.specs.Affine.{sum_of}
use Rattle.fx_template_conditions.proofs.Shares.{one_number_more}
use Rattle.fx_template_conditions.specs.CertificateSide.{form_on, templates_on}
use Rattle.fx_template_conditions.proofs.template.template_coefficient.Goals as goal

pub loop-s-preserved : goal.loop-s-preserved
loop-s-preserved c =
    let a = c.args in let d = a.side.now in let s = c.loop-s.s in
    let f = λ (k : ℕ). Product ((templates_on d).coef a.i k) ((form_on d (a.next + k)).coef a.j) in
    one_number_more c.sum-total.result s f (c.sum-total.ensures (sum_of s f) (f s) c.loop-s.invariant c.summand.ensures)
