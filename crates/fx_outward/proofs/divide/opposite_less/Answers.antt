use Rattle.std.proofs.Common.{◌≡◌, ◌∙◌, ◌+◌, ◌*◌, ◌^◌, ltb, false, ℤ, pos, ◌*ℤ◌, ◌-ℤ◌, FitsSigned, to_z, of_z, rules, ap, subst, sym}
use Rattle.std.specs.Prelude.{unsigned_abs}
use Rattle.std.specs.Int.{w32, w128}
use Rattle.std.proofs.lemmas.Int.{to_z-of_z}
use Rattle.fx_rational.specs.Rational.{floor_div}
use Rattle.fx_outward.specs.Grid.{lowest_dyadic, error_grid}
use Rattle.fx_outward.specs.Wide.{IsEnd, units_below}
use Rattle.fx_outward.proofs.Casts.{back}
use Rattle.fx_outward.proofs.Dividing.{limit_turned}
use Rattle.fx_outward.proofs.divide.opposite_less.Goals as goal

pub returns : goal.returns
returns c =
    let f = c.args.point in let f32 : to_z w32 (of_z w32 f) ≡ f = to_z-of_z w32 f c.ranges.point in
    let fh : FitsSigned w128 c.half_limit.result = search rules in
    let long : ltb (unsigned_abs c.args.m) (2 ^ 127) ≡ false =
    ap (λ (z : ℤ). ltb (unsigned_abs z) (2 ^ 127)) (sym (back c.ranges.m)) ∙ sym c.if-is_turnable.ensures in
    let n = ap (λ (z : ℤ). z *ℤ pos (2 ^ (c.args.p + 1))) (back fh ∙ c.half_limit.ensures)
    ∙ limit_turned c.args.m c.args.p c.ranges.m long in
    subst (IsEnd c.quotient_less-2.result)
    (λ i. lowest_dyadic (floor_div (n i *ℤ pos (2 ^ error_grid (f32 i))) (c.args.d * 2 ^ c.args.c) -ℤ pos
    (units_below (f32 i))) (error_grid (f32 i)))
    c.quotient_less-2.ensures
