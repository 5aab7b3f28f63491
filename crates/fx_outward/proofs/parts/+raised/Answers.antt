use Rattle.std.proofs.Common.{◌≡◌, ◌∙◌, ◌+◌, ◌-◌, ◌*◌, ◌/◌, ◌^◌, ◌<◌, ltb, ℕ, ℤ, pos, ◌*ℤ◌, ◌+ℤ◌, ◌-ℤ◌, FitsSigned, rules, to_z, of_z, ap, ap₂, subst, sym, arith}
use Rattle.std.specs.Prelude.{unsigned_abs}
use Rattle.std.specs.Int.{w32, w128}
use Rattle.std.proofs.lemmas.Int.{to_z-of_z}
use Rattle.fx_rational.specs.Rational.{floor_div}
use Rattle.fx_outward.specs.Grid.{lowest_dyadic, error_grid}
use Rattle.fx_outward.specs.Wide.{IsEnd, units_below}
use Rattle.fx_outward.proofs.Casts.{back}
use Rattle.fx_outward.proofs.LongDivision.{far_raised, raised_zero, twice_less, twice_more, end_of_next}
use Rattle.fx_outward.proofs.parts.+raised.Goals as goal

pub returns-then-not-is_near : goal.returns-then-not-is_near
returns-then-not-is_near t c =
    λ v h. far_raised v c.args.w c.args.point c.args.d c.args.r c.args.t c.requires.point
    (ap (λ (z : ℤ). ltb (unsigned_abs z) (2 ^ 66)) (sym (back c.ranges.w))
    ∙ sym c.if-not-is_near.ensures) h c.requires.rest

pub returns-then-t-eq0 : goal.returns-then-t-eq0
returns-then-t-eq0 t c = λ v h.
    let f = c.args.point in let f32 : to_z w32 (of_z w32 f) ≡ f = to_z-of_z w32 f c.ranges.point in
    let w = c.args.w in let d = c.args.d in let r = c.args.r in let e = error_grid f in
    let ge = c.grid-e.ensures.value ∙ ap error_grid f32 in
    let places : c.places.result ≡ r * 2 ^ e / d = c.places.ensures.value ∙ ap (λ (k : ℕ). r * 2 ^ k / d) ge in
    let some : 0 < d = let l = c.requires.rest in omega (arith, l) in
    subst (λ (k : ℕ). IsEnd c.less_unit.result
    (lowest_dyadic (floor_div ((v *ℤ pos (2 ^ k)) *ℤ pos (2 ^ e)) d -ℤ pos (units_below f)) e))
    (sym c.if-t-eq0.true)
    (subst (λ (z : ℤ). IsEnd c.less_unit.result (lowest_dyadic (z -ℤ pos (units_below f)) e))
    (ap₂ (λ (z : ℤ) (k : ℕ). z *ℤ pos (2 ^ e) +ℤ pos k) (back c.ranges.w) places ∙ raised_zero v w d r (2 ^ e) h some)
    (subst (λ (z : ℤ). IsEnd c.less_unit.result
    (lowest_dyadic ((to_z w128 (of_z w128 w) *ℤ pos (2 ^ error_grid z) +ℤ pos c.places.result) -ℤ pos
    (units_below z)) (error_grid z))) f32 c.less_unit.ensures))

pub returns-then-left-d : goal.returns-then-left-d
returns-then-left-d t c = λ v h.
    let n = c.if-t-eq0.false in let twice : FitsSigned w128 c.twice_more.result = search rules in
    let w = back twice ∙ c.twice_more.ensures ∙ ap (λ (z : ℤ). (z +ℤ z) +ℤ pos 1) (back c.ranges.w) in
    end_of_next c.raised.result v c.args.point _ c.args.d c.args.t (omega (arith, n))
    (to_z-of_z w32 c.args.point c.ranges.point)
    (c.raised.ensures (v *ℤ pos 2) (twice_more v c.args.w c.args.d c.args.r h c.if-left-d.true
    ∙ ap (λ (z : ℤ). z *ℤ pos c.args.d +ℤ pos ((c.args.r + c.args.r) - c.args.d)) (sym w)))

pub returns : goal.returns
returns t c = λ v h.
    let n = c.if-t-eq0.false in let twice : FitsSigned w128 c.twice.result = search rules in
    let w = back twice ∙ c.twice.ensures.value ∙ ap (λ (z : ℤ). z +ℤ z) (back c.ranges.w) in
    end_of_next c.raised-2.result v c.args.point _ c.args.d c.args.t (omega (arith, n))
    (to_z-of_z w32 c.args.point c.ranges.point)
    (c.raised-2.ensures (v *ℤ pos 2) (twice_less v c.args.w c.args.d c.args.r h
    ∙ ap (λ (z : ℤ). z *ℤ pos c.args.d +ℤ pos (c.args.r + c.args.r)) (sym w)))
