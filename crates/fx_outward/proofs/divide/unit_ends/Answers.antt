use Rattle.std.proofs.Common.{◌≡◌, ◌∙◌, Bool, if◌then◌else◌, to_z, of_z, ap, subst}
use Rattle.std.specs.Int.{w32}
use Rattle.std.proofs.lemmas.Int.{to_z-of_z}
use Rattle.fx_rational.specs.Rational.{minus, plus, below_zero}
use Rattle.fx_rational.specs.Dyadic.{Dyadic, dyadic_value, least, greatest}
use Rattle.fx_outward.specs.Grid.{grid_down, grid_up, error_grid}
use Rattle.fx_outward.specs.Narrow.{ratio, narrow, positive_bounds, unit_value, widened}
use Rattle.fx_outward.specs.Wide.{IsEnd}
use Rattle.fx_outward.proofs.Dividing.{turned_choice, low_end, high_end}
use Rattle.fx_outward.proofs.divide.unit_ends.Goals as goal

pub returns : goal.returns
returns c = λ s t fa fb.
    let a = c.args.a in let b = c.args.b in
    let f = c.args.point in let f32 : to_z w32 (of_z w32 f) ≡ f = to_z-of_z w32 f c.ranges.point in
    let al = c.low-al.ensures in let ah = c.high-ah.ensures in
    let p = c.is_below.ensures ∙ ap (λ (d : Dyadic). below_zero d.m) al in
    let q = c.is_below-2.ensures ∙ ap (λ (d : Dyadic). below_zero d.m) ah in
    let l = c.divisor_end-l.ensures.value ∙ ap (λ (t : Bool). if t then least b.lo b.hi else greatest b.lo b.hi) p in
    let g = c.divisor_end-g.ensures.value ∙ turned_choice c.is_below-2.result (least b.lo b.hi) (greatest b.lo b.hi)
    ∙ ap (λ (t : Bool). if t then greatest b.lo b.hi else least b.lo b.hi) q in
    let lo =
    subst (IsEnd c.below.result)
    ((λ i. grid_down (error_grid (f32 i))
    (minus (ratio (dyadic_value (al i)) (dyadic_value (l i))) (unit_value (f32 i))))
    ∙ low_end a b s t f c.requires.lo c.requires.hi fa fb) c.below.ensures in
    let hi =
    subst (IsEnd c.above.result)
    ((λ i. grid_up (error_grid (f32 i))
    (plus (ratio (dyadic_value (ah i)) (dyadic_value (g i))) (unit_value (f32 i))))
    ∙ high_end a b s t f c.requires.lo c.requires.hi fa fb) c.above.ensures in
    c.ends.ensures (narrow (error_grid f) (widened f (positive_bounds s t))) lo hi
