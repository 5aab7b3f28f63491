use Rattle.std.proofs.Common.{◌<◌, ◌≤◌, List, ap, arith, sym, subst, ◌∙◌}
use Rattle.fx_rational.specs.Dyadic.{Dyadic, zero_dyadic}
use Rattle.fx_model.specs.Tree.{at}
use Rattle.fx_inequalities.specs.Formula.{Num}
use Rattle.fx_formulas.specs.Places.{IsShort}
use Rattle.fx_conditions.proofs.Shorts.{template_coef_short}
use Rattle.fx_template_conditions.proofs.Shares.{unit_template_is, other_template_is}
use Rattle.fx_template_conditions.proofs.bound.take_share.Goals as goal

pub take_template-requires-clause-template : goal.take_template-requires-clause-template
take_template-requires-clause-template c = λ k lt.
    let s = c.args.side.now in let i = c.args.share.template in
    let own : i < s.states = omega (arith, c.if-share-states.true, c.states-states.ensures) in
    subst (IsShort 96) (unit_template_is s.templates s.states i k own ∙ sym (c.unit_coefs-unit.ensures k))
    (template_coef_short s.templates c.keeps.ensures.templates s.states i k)

pub take_template-requires-else-share-states-clause-template :
    goal.take_template-requires-else-share-states-clause-template
take_template-requires-else-share-states-clause-template c = λ k lt.
    let s = c.args.side.now in let i = c.args.share.template in
    let other : s.states ≤ i = omega (arith, c.if-share-states.false, c.states-states.ensures) in
    subst (IsShort 96) (other_template_is s.templates s.states i k other
    ∙ ap (λ (xs : List Dyadic). Num (at zero_dyadic xs k)) (sym c.coefs-template.ensures))
    (template_coef_short s.templates c.keeps.ensures.templates s.states i k)
