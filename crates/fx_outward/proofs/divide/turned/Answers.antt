use Rattle.std.proofs.Common.{◌≡◌, ◌∙◌, to_z, of_z, ap, sym}
use Rattle.std.specs.Int.{w32}
use Rattle.std.proofs.lemmas.Int.{to_z-of_z}
use Rattle.std.proofs.lemmas.Bool.{and_parts}
use Rattle.fx_rational.specs.Rational.{below_zero}
use Rattle.fx_rational.specs.Interval.{Interval}
use Rattle.fx_inequalities.specs.Formula.{zero_span, span_difference}
use Rattle.fx_outward.specs.Narrow.{positive_bounds, widened}
use Rattle.fx_outward.specs.Dividing.{around_quotient}
use Rattle.fx_outward.proofs.Dividing.{below_formed, unit_under, turned_above}
use Rattle.fx_outward.proofs.divide.turned.Goals as goal

pub returns-then-both_above : goal.returns-then-both_above
returns-then-both_above c = λ s t fx fb fy fz short below.
    let f = c.args.point in let f32 : to_z w32 (of_z w32 f) ≡ f = to_z-of_z w32 f c.ranges.point in let b = c.args.b in
    let signs = and_parts (below_zero b.lo.m) (below_zero b.hi.m) below in let v = span_difference zero_span s in
    let w = span_difference zero_span t in
    let r = sym (below_formed b.lo t.lo (ap (λ (i : Interval). i.lo) fb.1)) ∙ signs.0 in
    let n = sym (below_formed b.hi t.hi (ap (λ (i : Interval). i.hi) fb.1)) ∙ signs.1 in
    c.fitted.ensures (widened (to_z w32 (of_z w32 f)) (positive_bounds v w)) s t fx fb short
    (c.unit_ends.ensures v w fy fz)
    ∙ (λ i. around_quotient (f32 i) (widened (f32 i) (positive_bounds v w)) s t) ∙ unit_under f s t r n

pub returns-else-both_above : goal.returns-else-both_above
returns-else-both_above c =
    λ s t fx fb fy fz short below. absurd (let p = turned_above c.args.b c.args.z t fb fz below in
    let q = c.if-both_above.ensures in cc)
