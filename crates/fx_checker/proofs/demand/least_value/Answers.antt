use Rattle.std.proofs.Common.{subst}
use Rattle.fx_rational.specs.Interval.{Interval}
use Rattle.fx_inequalities.specs.Formula.{Num, Sum}
use Rattle.fx_formulas.specs.Judging.{Forms}
use Rattle.fx_checker.proofs.demand.least_value.Goals as goal

pub returns : goal.returns
returns c =
    let x = Num c.range.inside.lo in let y = Num c.error.inside.lo in
    subst (λ (i : Interval). Forms c.sum.result (Sum (Num i.lo) (Num c.args.error.lo))) c.range.view_is
    (subst (λ (i : Interval). Forms c.sum.result (Sum x (Num i.lo))) c.error.view_is
    (c.sum.ensures x y c.number.ensures c.number-2.ensures))
