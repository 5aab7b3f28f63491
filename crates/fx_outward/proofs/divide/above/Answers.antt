use Rattle.std.proofs.Common.{◌∙◌, ◌<◌, ℕ, neg_ℤ, FitsSigned, ap, rules, subst}
use Rattle.std.specs.Int.{w32, w128}
use Rattle.std.proofs.lemmas.Int.{to_z-of_z}
use Rattle.fx_outward.specs.Wide.{IsEnd}
use Rattle.fx_outward.proofs.Casts.{back}
use Rattle.fx_outward.proofs.Dividing.{quotient_above_end, quotient_floor_same, turned_floor}
use Rattle.fx_outward.proofs.divide.above.Goals as goal

pub returns : goal.returns
returns c =
    let f = c.args.point in let d = c.positive_mantissa-d.ensures in
    let fits : FitsSigned w128 c.mantissa.result = search rules in
    let floor =
    subst (IsEnd c.opposite_less.result)
    (quotient_floor_same (ap neg_ℤ (back fits ∙ c.mantissa.ensures)) c.exponent-p.ensures.value d.value
    c.exponent-c.ensures.value (to_z-of_z w32 f c.ranges.point)) c.opposite_less.ensures in
    subst (IsEnd c.opposite.result)
    (quotient_above_end c.args.a c.args.b f (subst (λ (n : ℕ). 0 < n) d.value d.some))
    (c.opposite.ensures (turned_floor c.args.a c.args.b f) floor)
