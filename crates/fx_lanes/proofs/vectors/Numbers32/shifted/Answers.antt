use Rattle.std.proofs.Common.{arith, ap, ◌∙◌, map, pos, ◌*ℤ◌, ◌^◌}
use Rattle.std.specs.Int.{w32, int_wrap}
use Rattle.std.proofs.lemmas.Int.{ints}
use Rattle.fx_lanes.proofs.Shifts as shifts
use Rattle.fx_lanes.proofs.vectors.Numbers32.shifted.Goals as goal

pub returns-then-s-lt32 : goal.returns-then-s-lt32
returns-then-s-lt32 c = c.lowered.ensures.lowered
    ∙ shifts.right_is w32 c.args.s _ (omega (arith, ints, c.if-s-ge0.true)) c.args.self c.lowered.ensures.fits

pub returns-then-s-ge32 : goal.returns-then-s-ge32
returns-then-s-ge32 c =
    let l = c.lowered-then-s-ge32.ensures in
    l.lowered ∙ shifts.far_right_is w32 c.args.s (omega (arith, ints, c.if-s-ge32.true)) c.args.self l.fits

pub returns-else-s-gtminus31 : goal.returns-else-s-gtminus31
returns-else-s-gtminus31 c =
    c.raised-else-s-gtminus31-2.ensures
    ∙ ap (map (λ x. int_wrap w32 (x *ℤ pos (2 ^ _)))) c.raised-else-s-gtminus31.ensures
    ∙ shifts.far_left_is w32 c.args.s 15 _
    (omega (arith, ints, c.if-s-gtminus31.false, c.unsigned_abs-else-s-gtminus31.ensures.value)) c.args.self
