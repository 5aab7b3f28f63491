use Rattle.std.proofs.Common.{Option, Some, IfSome, sym, subst, ◌∙◌}
use Rattle.fx_rational.specs.Dyadic.{Dyadic}
use Rattle.fx_inequalities.specs.Formula.{Num}
use Rattle.fx_formulas.specs.Judging.{Forms}
use Rattle.fx_template_conditions.specs.declared.quick.ShortTimes.{ShortTimes}
use Rattle.fx_template_conditions.specs.ShortTimes.{AreTimes, HasRoom}
use Rattle.fx_template_conditions.proofs.Quickly.{less_forms, number_forms}
use Rattle.fx_template_conditions.proofs.bound.quick_left.Goals as goal

pub less_raised-requires : goal.less_raised-requires
less_raised-requires c = subst (λ (o : Option ShortTimes). IfSome o HasRoom) c.in-Some.is c.requires

pub returns : goal.returns
returns c = λ a f fits given h.
    let are : AreTimes c.in-Some.short a =
    subst (λ (o : Option ShortTimes). IfSome o (λ t. AreTimes t a)) c.in-Some.is given in
    let left = subst (λ (o : Option Dyadic). Forms o f) (sym c.coefficient.ensures ∙ c.in_ok-left.was) h in
    let coef =
    subst (λ (d : Dyadic). Forms (Some c.coef_at-coef.result) (Num d)) c.coef_at-coef.ensures
    (number_forms c.coef_at-coef.result c.keeps.ensures) in
    less_forms c.less_raised.result c.in_ok-left.left a c.coef_at-coef.result f _ fits left coef
    (c.less_raised.ensures.product a are) (c.less_raised.ensures.difference a are) (c.less_raised.ensures.is a are)
