use Rattle.std.proofs.Common.{◌^◌, ◌∙◌, ltb, ℤ, ap, sym}
use Rattle.std.specs.Prelude.{unsigned_abs}
use Rattle.fx_outward.proofs.Casts.{back}
use Rattle.fx_outward.proofs.LongDivision.{far_whole}
use Rattle.fx_outward.proofs.parts.less_unit.Goals as goal

pub returns-then-not-is_near : goal.returns-then-not-is_near
returns-then-not-is_near c =
    far_whole c.args.w c.args.point c.args.f c.requires.point
    (ap (λ (z : ℤ). ltb (unsigned_abs z) (2 ^ 66)) (sym (back c.ranges.w))
    ∙ sym c.if-not-is_near.ensures) c.requires.places
