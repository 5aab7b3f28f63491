use Rattle.std.proofs.Common.{◌∙◌, ◌^◌, ℤ, pos, neg_ℤ, ◌*ℤ◌, FitsSigned, rules, subst, ap}
use Rattle.std.specs.Int.{w128}
use Rattle.fx_rational.specs.Rational.{floor_div}
use Rattle.fx_outward.specs.Grid.{lowest_dyadic}
use Rattle.fx_outward.specs.Wide.{IsEnd}
use Rattle.fx_outward.proofs.Casts.{back}
use Rattle.fx_outward.proofs.Ends.{ceiling_turned}
use Rattle.fx_outward.proofs.wide.wide_up.Goals as goal

pub returns : goal.returns
returns c =
    let fm : FitsSigned w128 c.negate-m.result = search rules in
    let m = back fm ∙ c.negate-m.ensures ∙ ap neg_ℤ (back c.ranges.n) in
    let floor = λ (z : ℤ). lowest_dyadic (floor_div (z *ℤ pos (2 ^ c.args.e)) c.args.d) c.args.e in
    subst (IsEnd c.opposite.result) (ceiling_turned c.args.n (2 ^ c.args.e) c.args.d c.args.e)
    (c.opposite.ensures (floor (neg_ℤ c.args.n))
    (subst (λ (z : ℤ). IsEnd c.wide_down.result (floor z)) m c.wide_down.ensures))
