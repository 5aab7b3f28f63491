use Rattle.std.proofs.Common.{◌≡◌, ℕ, subst, sym, ◌∙◌, add-one}
use Rattle.std.proofs.lemmas.List.{get_or_default}
use Rattle.fx_model.specs.Tree.{at}
use Rattle.fx_inequalities.specs.Formula.{point, span, span_product}
use Rattle.fx_inequalities.specs.Certificate.{zero_interval}
use Rattle.fx_formulas.specs.Judging.{FormsSpan}
use Rattle.fx_template.specs.AffineView.{linear_form}
use Rattle.fx_template.specs.Combining.{bound_form, coef_in}
use Rattle.fx_template.proofs.Near.{near_summand}
use Rattle.fx_template.proofs.bound.aff_bound.Goals as goal

pub scaled-requires : goal.scaled-requires
scaled-requires c =
    let a = linear_form c.args.a.now in let rs = c.args.ranges.now in let j = c.loop-j.j in
    let is : c.index-ranges-j.result ≡ at zero_interval rs j = c.index-ranges-j.is
    ∙ get_or_default rs j c.index-ranges-j.result zero_interval c.loop-j-test.true in
    let near =
    near_summand (span a.rest) _ j (coef_in a)
    (λ k. span (at zero_interval rs k)) c.loop-j-test.true c.requires.near in
    rw (is, c.at.ensures) near

pub loop-j-preserved : goal.loop-j-preserved
loop-j-preserved c =
    let a = linear_form c.args.a.now in let rs = c.args.ranges.now in let j = c.loop-j.j in
    let is : c.index-ranges-j.result ≡ at zero_interval rs j = c.index-ranges-j.is
    ∙ get_or_default rs j c.index-ranges-j.result zero_interval c.loop-j-test.true in
    let term : FormsSpan c.scaled.result (span_product (point (coef_in a j)) (span (at zero_interval rs j))) =
    rw (sym is, sym c.at.ensures) c.scaled.ensures in
    subst (λ (m : ℕ). FormsSpan c.plus-total.result (bound_form a m rs)) (sym (add-one j))
    (c.plus-total.ensures (bound_form a j rs)
    (span_product (point (coef_in a j)) (span (at zero_interval rs j))) c.loop-j.invariant term)
