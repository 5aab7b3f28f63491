use Rattle.std.proofs.Common.{◌∙◌, ◌<◌, ℕ, FitsSigned, rules, subst}
use Rattle.std.specs.Int.{w32, w128}
use Rattle.std.proofs.lemmas.Int.{to_z-of_z}
use Rattle.fx_outward.specs.Wide.{IsEnd}
use Rattle.fx_outward.proofs.Casts.{back}
use Rattle.fx_outward.proofs.Dividing.{quotient_below_end, quotient_floor_same}
use Rattle.fx_outward.proofs.divide.below.Goals as goal

pub returns : goal.returns
returns c =
    let f = c.args.point in let d = c.positive_mantissa-d.ensures in
    let fits : FitsSigned w128 c.mantissa.result = search rules in
    subst (IsEnd c.quotient_less.result)
    (quotient_floor_same (back fits ∙ c.mantissa.ensures) c.exponent-p.ensures.value d.value c.exponent-c.ensures.value
    (to_z-of_z w32 f c.ranges.point)
    ∙ quotient_below_end c.args.a c.args.b f (subst (λ (n : ℕ). 0 < n) d.value d.some)) c.quotient_less.ensures
