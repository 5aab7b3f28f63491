use Rattle.std.proofs.Common.{SFits, FitsSigned, ◌≤◌, ap, subst, ◌∙◌, rules}
use Rattle.std.specs.Int.{w64, w128}
use Rattle.std.proofs.lemmas.Int.{to_z-of_z}
use Rattle.fx_rational.specs.Decimal.{Decimal}
use Rattle.fx_fraction.specs.Units.{smallest_units}
use Rattle.fx_fraction.proofs.Ranges.{units_product, small_whole}
use Rattle.fx_fraction.proofs.range.smallest_units.Goals as goal

pub overflow_mul-result : goal.overflow_mul-result
overflow_mul-result c =
    let fi : SFits w64 c.d.inside.a = search rules in
    let fa : FitsSigned w128 c.from.result = search rules in
    let ft : FitsSigned w128 c.from-2.result = search rules in
    (units_product _ c.d.inside.b _ _ c.d.invariant.small c.d.invariant.places (to_z-of_z w128 c.from.result fa
    ∙ c.from.ensures ∙ to_z-of_z w64 c.d.inside.a fi) (to_z-of_z w128 c.from-2.result ft ∙ c.from-2.ensures
    ∙ small_whole c.ten_to.result c.d.inside.b c.ten_to.ensures.value)).fits

pub returns : goal.returns
returns c =
    let fi : SFits w64 c.d.inside.a = search rules in
    let fa : FitsSigned w128 c.from.result = search rules in
    let ft : FitsSigned w128 c.from-2.result = search rules in
    let u = units_product _ c.d.inside.b _ _ c.d.invariant.small c.d.invariant.places (to_z-of_z w128 c.from.result fa
    ∙ c.from.ensures ∙ to_z-of_z w64 c.d.inside.a fi) (to_z-of_z w128 c.from-2.result ft ∙ c.from-2.ensures
    ∙ small_whole c.ten_to.result c.d.inside.b c.ten_to.ensures.value) in
    record {
      value = u.value ∙ ap smallest_units c.d.view_is;
      small = u.small;
      places = subst (λ (x : Decimal). x.b ≤ 18) c.d.view_is c.d.invariant.places;
    }
