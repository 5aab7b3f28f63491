use Rattle.std.proofs.Common.{◌≡◌, ◌∙◌, ◌+◌, ◌-◌, ◌*◌, ◌^◌, ◌≤◌, ℕ, ℤ, pos, ◌*ℤ◌, ◌+ℤ◌, ◌-ℤ◌, FitsSigned, to_z, of_z, rules, ap, subst, sym, arith}
use Rattle.std.specs.Int.{w32, w128}
use Rattle.std.proofs.lemmas.Int.{to_z-of_z}
use Rattle.fx_rational.specs.Rational.{floor_div}
use Rattle.fx_outward.specs.Grid.{lowest_dyadic, error_grid}
use Rattle.fx_outward.specs.Wide.{IsEnd, units_below}
use Rattle.fx_outward.proofs.Casts.{back}
use Rattle.fx_outward.proofs.Ends.{rest_sum}
use Rattle.fx_outward.proofs.LongDivision.{more_above, more_below}
use Rattle.fx_outward.proofs.parts.quotient_less.Goals as goal

pub returns-then-p-c : goal.returns-then-p-c
returns-then-p-c c =
    let n = c.args.n in let d = c.args.d in let f = c.args.point in let r = c.rest.result in
    let f32 : to_z w32 (of_z w32 f) ≡ f = to_z-of_z w32 f c.ranges.point in
    let fw : FitsSigned w128 c.whole.result = search rules in
    let w = back fw ∙ c.whole.ensures ∙ ap (λ (z : ℤ). floor_div z d) (back c.ranges.n) in
    let rest : pos r ≡ n -ℤ floor_div n d *ℤ pos d =
    subst (λ (z : ℤ). pos r ≡ z -ℤ floor_div z d *ℤ pos d) (back c.ranges.n) c.rest.ensures in
    let sum = rest_sum n d r rest ∙ ap (λ (z : ℤ). z *ℤ pos d +ℤ pos r) (sym w) in
    subst (λ (y : ℤ). IsEnd c.raised.result (lowest_dyadic (y -ℤ pos (units_below f)) (error_grid f)))
    (more_above n d c.args.p c.args.c (error_grid f) c.requires.some c.if-p-c.true)
    (subst (λ (z : ℤ). IsEnd c.raised.result
    (lowest_dyadic (floor_div ((n *ℤ pos (2 ^ (c.args.p - c.args.c))) *ℤ pos (2 ^ error_grid z)) d -ℤ pos
    (units_below z)) (error_grid z))) f32 (c.raised.ensures n sum))

pub returns-then-j-e : goal.returns-then-j-e
returns-then-j-e c =
    let n = c.args.n in let d = c.args.d in let f = c.args.point in let j = c.args.c - c.args.p in
    let f32 : to_z w32 (of_z w32 f) ≡ f = to_z-of_z w32 f c.ranges.point in
    let less = c.if-p-c.false in let le : c.args.p ≤ c.args.c = omega (arith, less) in
    subst (λ (y : ℤ). IsEnd c.lowered.result (lowest_dyadic (y -ℤ pos (units_below f)) (error_grid f)))
    (more_below n d c.args.p c.args.c (error_grid f) c.requires.some le)
    (subst (λ (z : ℤ). IsEnd c.lowered.result
    (lowest_dyadic (floor_div (n *ℤ pos (2 ^ error_grid z)) (d * 2 ^ j) -ℤ pos (units_below z)) (error_grid z))) f32
    (subst (λ (z : ℤ). IsEnd c.lowered.result
    (lowest_dyadic (floor_div (z *ℤ pos (2 ^ error_grid (to_z w32 (of_z w32 f)))) (d * 2 ^ j) -ℤ pos
    (units_below (to_z w32 (of_z w32 f)))) (error_grid (to_z w32 (of_z w32 f)))))
    (back c.ranges.n) c.lowered.ensures))

pub returns : goal.returns
returns c =
    let n = c.args.n in let d = c.args.d in let f = c.args.point in let j = c.args.c - c.args.p in
    let f32 : to_z w32 (of_z w32 f) ≡ f = to_z-of_z w32 f c.ranges.point in
    let less = c.if-p-c.false in let le : c.args.p ≤ c.args.c = omega (arith, less) in
    let ge = c.grid-e.ensures.value ∙ ap error_grid f32 in let far = c.if-j-e.false in
    let back_sum : (j - c.grid-e.result) + error_grid f ≡ j = omega (arith, ge, far) in
    subst (λ (y : ℤ). IsEnd c.shifted.result (lowest_dyadic (y -ℤ pos (units_below f)) (error_grid f)))
    (more_below n d c.args.p c.args.c (error_grid f) c.requires.some le)
    (subst (λ (k : ℕ). IsEnd c.shifted.result
    (lowest_dyadic (floor_div (n *ℤ pos (2 ^ error_grid f)) (d * 2 ^ k) -ℤ pos (units_below f))
    (error_grid f))) back_sum
    (subst (λ (z : ℤ). IsEnd c.shifted.result
    (lowest_dyadic (floor_div (n *ℤ pos (2 ^ error_grid z)) (d * 2 ^ ((j - c.grid-e.result) + error_grid z)) -ℤ pos
    (units_below z)) (error_grid z))) f32
    (subst (λ (z : ℤ). IsEnd c.shifted.result
    (lowest_dyadic (floor_div (z *ℤ pos (2 ^ error_grid (to_z w32 (of_z w32 f))))
    (d * 2 ^ ((j - c.grid-e.result) + error_grid (to_z w32 (of_z w32 f)))) -ℤ pos
    (units_below (to_z w32 (of_z w32 f)))) (error_grid (to_z w32 (of_z w32 f)))))
    (back c.ranges.n) c.shifted.ensures)))
