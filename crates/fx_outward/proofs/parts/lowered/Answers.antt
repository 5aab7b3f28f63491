use Rattle.std.proofs.Common.{◌≡◌, ◌∙◌, ◌+◌, ◌-◌, ◌*◌, ◌/◌, ◌^◌, ℕ, ℤ, pos, ◌*ℤ◌, ◌+ℤ◌, ◌-ℤ◌, FitsSigned, to_z, of_z, rules, ap, ap₂, subst, sym}
use Rattle.std.specs.Int.{w32, w128}
use Rattle.std.proofs.lemmas.Int.{to_z-of_z}
use Rattle.fx_rational.specs.Rational.{floor_div}
use Rattle.fx_outward.specs.Grid.{lowest_dyadic, error_grid}
use Rattle.fx_outward.specs.Wide.{IsEnd, units_below}
use Rattle.fx_outward.proofs.Casts.{back}
use Rattle.fx_outward.proofs.Ends.{rest_sum}
use Rattle.fx_outward.proofs.LongDivision.{lowered_is}
use Rattle.fx_outward.proofs.parts.lowered.Goals as goal

pub returns : goal.returns
returns c =
    let n = c.args.n in let d = c.args.d in let j = c.args.j in let f = c.args.point in let r = c.rest-r.result in
    let l = c.low_places-l.result in
    let f32 : to_z w32 (of_z w32 f) ≡ f = to_z-of_z w32 f c.ranges.point in
    let fm : FitsSigned w128 c.whole-m.result = search rules in
    let fw : FitsSigned w128 c.floor_shift-w.result = search rules in
    let m = floor_div n d in let mm = back fm ∙ c.whole-m.ensures ∙ ap (λ (z : ℤ). floor_div z d) (back c.ranges.n) in
    let ww = back fw ∙ c.floor_shift-w.ensures ∙ ap (λ (z : ℤ). floor_div z (2 ^ j)) mm in
    let rest : pos r ≡ n -ℤ floor_div n d *ℤ pos d =
    subst (λ (z : ℤ). pos r ≡ z -ℤ floor_div z d *ℤ pos d) (back c.ranges.n) c.rest-r.ensures in
    let low : pos l ≡ m -ℤ floor_div m (2 ^ j) *ℤ pos (2 ^ j) =
    subst (λ (z : ℤ). pos l ≡ z -ℤ floor_div z (2 ^ j) *ℤ pos (2 ^ j)) mm c.low_places-l.ensures.value in
    let e = error_grid f in let ge = c.grid-e.ensures.value ∙ ap error_grid f32 in
    let places : c.joined.result ≡ l * 2 ^ (e - j) + r * 2 ^ (e - j) / d = c.joined.ensures.value
    ∙ ap₂ (λ (k p : ℕ). l * 2 ^ (k - j) + p) ge (c.places-f.ensures.value
    ∙ ap (λ (k : ℕ). r * 2 ^ (k - j) / d) ge) in
    subst (λ (z : ℤ). IsEnd c.less_unit.result (lowest_dyadic (z -ℤ pos (units_below f)) e))
    (ap₂ (λ (z : ℤ) (k : ℕ). z *ℤ pos (2 ^ e) +ℤ pos k) ww places
    ∙ sym (lowered_is n m (floor_div m (2 ^ j)) d r j e l (rest_sum n d r rest) c.requires.some
    (rest_sum m (2 ^ j) l low) c.requires.within))
    (subst (λ (z : ℤ). IsEnd c.less_unit.result
    (lowest_dyadic ((to_z w128 (of_z w128 c.floor_shift-w.result) *ℤ pos (2 ^ error_grid z)
    +ℤ pos c.joined.result) -ℤ pos (units_below z)) (error_grid z))) f32 c.less_unit.ensures)
