use Rattle.std.proofs.Common.{◌≡◌, ◌∙◌, ◌^◌, ℤ, pos, ◌*ℤ◌, ◌+ℤ◌, ◌-ℤ◌, FitsSigned, to_z, of_z, rules, ap, subst, sym}
use Rattle.std.specs.Int.{w32, w128}
use Rattle.std.proofs.lemmas.Int.{to_z-of_z}
use Rattle.fx_rational.specs.Rational.{floor_div}
use Rattle.fx_outward.specs.Grid.{lowest_dyadic, error_grid}
use Rattle.fx_outward.specs.Wide.{IsEnd, units_below}
use Rattle.fx_outward.proofs.Casts.{back}
use Rattle.fx_outward.proofs.Ends.{rest_sum}
use Rattle.fx_outward.proofs.LongDivision.{shifted_is}
use Rattle.fx_outward.proofs.parts.shifted.Goals as goal

pub returns : goal.returns
returns c =
    let n = c.args.n in let d = c.args.d in let i = c.args.i in let f = c.args.point in let l = c.low_places.result in
    let f32 : to_z w32 (of_z w32 f) ≡ f = to_z-of_z w32 f c.ranges.point in
    let fq : FitsSigned w128 c.whole.result = search rules in
    let fm : FitsSigned w128 c.floor_shift-m.result = search rules in
    let fw : FitsSigned w128 c.floor_shift-w.result = search rules in
    let e = error_grid f in let ge = c.grid-e.ensures.value ∙ ap error_grid f32 in
    let m = floor_div (floor_div n d) (2 ^ i) in
    let q = back fq ∙ c.whole.ensures ∙ ap (λ (z : ℤ). floor_div z d) (back c.ranges.n) in
    let mm = back fm ∙ c.floor_shift-m.ensures ∙ ap (λ (z : ℤ). floor_div z (2 ^ i)) q in
    let ww = back fw ∙ c.floor_shift-w.ensures ∙ (λ k. floor_div (mm k) (2 ^ (ge k))) in
    let low : pos l ≡ m -ℤ floor_div m (2 ^ e) *ℤ pos (2 ^ e) = c.low_places.ensures.value
    ∙ (λ k. mm k -ℤ floor_div (mm k) (2 ^ (ge k)) *ℤ pos (2 ^ (ge k))) in
    subst (λ (z : ℤ). IsEnd c.less_unit.result (lowest_dyadic (z -ℤ pos (units_below f)) e))
    (ap (λ (z : ℤ). z *ℤ pos (2 ^ e) +ℤ pos l) ww ∙ sym (rest_sum m (2 ^ e) l low)
    ∙ sym (shifted_is n d i e c.requires.some))
    (subst (λ (z : ℤ). IsEnd c.less_unit.result
    (lowest_dyadic ((to_z w128 (of_z w128 c.floor_shift-w.result) *ℤ pos (2 ^ error_grid z) +ℤ pos l) -ℤ pos
    (units_below z)) (error_grid z))) f32 c.less_unit.ensures)
