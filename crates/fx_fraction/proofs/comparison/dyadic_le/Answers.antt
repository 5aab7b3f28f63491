use Rattle.std.proofs.Common.{◌≡◌, ◌^◌, pos, ◌*ℤ◌, FitsSigned, to_z, of_z, ap, ◌∙◌, rules}
use Rattle.std.specs.Prelude.{int_le}
use Rattle.std.specs.Int.{w128}
use Rattle.std.proofs.lemmas.Int.{to_z-of_z}
use Rattle.fx_rational.specs.Rational.{bottom, ceil_div}
use Rattle.fx_rational.specs.Dyadic.{Dyadic}
use Rattle.fx_fraction.proofs.Comparisons.{le_is}
use Rattle.fx_fraction.proofs.comparison.dyadic_le.Goals as goal

pub returns : goal.returns
returns c =
    let fp : FitsSigned w128 c.in_ok-product.product = search rules in
    let fs : FitsSigned w128 c.ceil_shift.result = search rules in
    let ft : FitsSigned w128 c.numerator.result = search rules in
    let p : to_z w128 (of_z w128 c.in_ok-product.product) ≡ c.args.d.m *ℤ pos (bottom c.args.c) =
    to_z-of_z w128 c.in_ok-product.product fp ∙ c.in_ok-product.ensures.1 in
    let e = ap (λ (d : Dyadic). d.e) c.d.view_is in
    let s : to_z w128 (of_z w128 c.ceil_shift.result)
    ≡ ceil_div (c.args.d.m *ℤ pos (bottom c.args.c)) (2 ^ c.args.d.e) =
    to_z-of_z w128 c.ceil_shift.result fs ∙ c.ceil_shift.ensures ∙ (λ i. ceil_div (p i) (2 ^ (e i))) in
    let t : to_z w128 (of_z w128 c.numerator.result) ≡ c.args.c.top = to_z-of_z w128 c.numerator.result ft
    ∙ c.numerator.ensures.value in
    (c.in_ok-product.ensures.0, (λ i. int_le (s i) (t i)) ∙ le_is c.args.d c.args.c)
