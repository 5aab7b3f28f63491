use Rattle.std.proofs.Common.{arith, ap, ◌∙◌, map, pos, ◌*ℤ◌, ◌^◌}
use Rattle.std.specs.Int.{w64, int_wrap}
use Rattle.std.proofs.lemmas.Int.{ints}
use Rattle.fx_lanes.proofs.Shifts as shifts
use Rattle.fx_lanes.proofs.vectors.Numbers64.shifted.Goals as goal

pub returns-then-s-lt64 : goal.returns-then-s-lt64
returns-then-s-lt64 c = c.lowered.ensures.lowered
    ∙ shifts.right_is w64 c.args.s _ (omega (arith, ints, c.if-s-ge0.true)) c.args.self c.lowered.ensures.fits

pub returns-then-s-ge64 : goal.returns-then-s-ge64
returns-then-s-ge64 c =
    let l = c.lowered-then-s-ge64.ensures in
    l.lowered ∙ shifts.far_right_is w64 c.args.s (omega (arith, ints, c.if-s-ge64.true)) c.args.self l.fits

pub returns-else-s-gtminus63 : goal.returns-else-s-gtminus63
returns-else-s-gtminus63 c =
    c.raised-else-s-gtminus63-2.ensures
    ∙ ap (map (λ x. int_wrap w64 (x *ℤ pos (2 ^ _)))) c.raised-else-s-gtminus63.ensures
    ∙ shifts.far_left_is w64 c.args.s 31 _
    (omega (arith, ints, c.if-s-gtminus63.false, c.unsigned_abs-else-s-gtminus63.ensures.value)) c.args.self
