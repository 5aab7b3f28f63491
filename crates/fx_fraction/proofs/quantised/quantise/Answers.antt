use Rattle.std.proofs.Common.{◌≡◌, ◌^◌, pos, ◌*ℤ◌, FitsSigned, SFits, to_z, of_z, ap, ◌∙◌, arith, rules}
use Rattle.std.specs.Prelude.{unsigned_abs}
use Rattle.std.specs.Int.{w64, w128}
use Rattle.std.proofs.lemmas.Int.{ints, to_z-of_z}
use Rattle.fx_rational.specs.Rational.{floor_div}
use Rattle.fx_rational.specs.Decimal.{Decimal, quantised}
use Rattle.fx_fraction.proofs.Tails.{high_few}
use Rattle.fx_fraction.proofs.Quanta.{up_fits, quantised_low, quantised_high}
use Rattle.fx_fraction.proofs.quantised.quantise.Goals as goal

pub left-requires-clause-fits : goal.left-requires-clause-fits
left-requires-clause-fits c =
    let fs = c.ranges.f in
    let fa : FitsSigned w128 c.from-a.result = search rules in
    let fi : SFits w64 c.d.inside.a = search rules in
    let k : c.unsigned_abs-else-f-lt0.result ≡ unsigned_abs c.args.f =
    simp to_z-of_z at c.unsigned_abs-else-f-lt0.ensures.value in
    up_fits c.d.inside.a _ c.unsigned_abs-else-f-lt0.result c.d.invariant.small
    (high_few c.args.f c.unsigned_abs-else-f-lt0.result (omega (arith, ints)) c.requires.high k)
    (to_z-of_z w128 c.from-a.result fa ∙ c.from-a.ensures ∙ to_z-of_z w64 c.d.inside.a fi)

pub returns-then-f-lt0 : goal.returns-then-f-lt0
returns-then-f-lt0 c =
    let d : Decimal = record { a = c.d.inside.a; b = c.d.inside.b } in
    let fs = c.ranges.f in
    let fa : FitsSigned w128 c.from-a.result = search rules in
    let fi : SFits w64 c.d.inside.a = search rules in
    let fr : FitsSigned w128 c.floor_shift.result = search rules in
    let fq : FitsSigned w128 c.floor_quotient.result = search rules in
    let k : c.unsigned_abs.result ≡ unsigned_abs c.args.f = simp to_z-of_z at c.unsigned_abs.ensures.value in
    let a : to_z w128 (of_z w128 c.from-a.result) ≡ c.d.inside.a = to_z-of_z w128 c.from-a.result fa ∙ c.from-a.ensures
    ∙ to_z-of_z w64 c.d.inside.a fi in
    let r : to_z w128 (of_z w128 c.floor_shift.result) ≡ floor_div c.d.inside.a (2 ^ c.unsigned_abs.result) =
    to_z-of_z w128 c.floor_shift.result fr ∙ c.floor_shift.ensures
    ∙ ap (λ z. floor_div z (2 ^ c.unsigned_abs.result)) a in
    to_z-of_z w128 c.floor_quotient.result fq ∙ c.floor_quotient.ensures
    ∙ (λ i. floor_div (r i) (c.ten_to-power.ensures.value i))
    ∙ quantised_low d c.args.f c.unsigned_abs.result (omega (arith, ints)) k
    ∙ ap (λ x. quantised x c.args.f) c.d.view_is

pub returns-else-f-lt0 : goal.returns-else-f-lt0
returns-else-f-lt0 c =
    let d : Decimal = record { a = c.d.inside.a; b = c.d.inside.b } in
    let s = c.unsigned_abs-else-f-lt0.result in
    let fs = c.ranges.f in
    let fa : FitsSigned w128 c.from-a.result = search rules in
    let fi : SFits w64 c.d.inside.a = search rules in
    let fl : FitsSigned w128 c.left.result = search rules in
    let fq : FitsSigned w128 c.floor_quotient-else-f-lt0.result = search rules in
    let k : c.unsigned_abs-else-f-lt0.result ≡ unsigned_abs c.args.f =
    simp to_z-of_z at c.unsigned_abs-else-f-lt0.ensures.value in
    let a : to_z w128 (of_z w128 c.from-a.result) ≡ c.d.inside.a = to_z-of_z w128 c.from-a.result fa ∙ c.from-a.ensures
    ∙ to_z-of_z w64 c.d.inside.a fi in
    let l : to_z w128 (of_z w128 c.left.result) ≡ c.d.inside.a *ℤ pos (2 ^ s) = to_z-of_z w128 c.left.result fl
    ∙ c.left.ensures ∙ ap (λ z. z *ℤ pos (2 ^ s)) a in
    to_z-of_z w128 c.floor_quotient-else-f-lt0.result fq ∙ c.floor_quotient-else-f-lt0.ensures
    ∙ (λ i. floor_div (l i) (c.ten_to-power.ensures.value i))
    ∙ quantised_high d c.args.f s (omega (arith, ints)) k
    ∙ ap (λ x. quantised x c.args.f) c.d.view_is
