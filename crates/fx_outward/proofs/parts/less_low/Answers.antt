use Rattle.std.proofs.Common.{◌∙◌, ◌+◌, ◌^◌, ℤ, pos, ◌*ℤ◌, ◌+ℤ◌, ◌-ℤ◌, FitsSigned, rules, ap, subst}
use Rattle.std.specs.Int.{w128}
use Rattle.fx_outward.specs.Grid.{lowest_dyadic}
use Rattle.fx_outward.specs.Wide.{IsEnd}
use Rattle.fx_outward.proofs.Casts.{back}
use Rattle.fx_outward.proofs.LongDivision.{less_whole}
use Rattle.fx_outward.proofs.parts.less_low.Goals as goal

pub returns : goal.returns
returns c =
    let e = c.args.e in
    let fv : FitsSigned w128 c.less_power-v.result = search rules in
    let v = back fv ∙ c.less_power-v.ensures ∙ ap (λ (z : ℤ). z -ℤ pos (2 ^ (c.args.k + 1))) (back c.ranges.w) in
    subst (IsEnd c.assembled.result)
    (ap (λ (z : ℤ). lowest_dyadic (z *ℤ pos (2 ^ e) +ℤ pos c.args.f) e) v
    ∙ ap (λ (z : ℤ). lowest_dyadic z e)
    (less_whole c.args.w (pos (2 ^ (c.args.k + 1))) (pos (2 ^ e)) (pos c.args.f)))
    c.assembled.ensures
