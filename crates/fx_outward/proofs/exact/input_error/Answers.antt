use Rattle.std.proofs.Common.{◌≡◌, ◌∙◌, ◌^◌, ℕ, ℤ, pos, neg_ℤ, ◌*ℤ◌, ◌-ℤ◌, FitsSigned, to_z, of_z, rules, subst, ap, ap₂}
use Rattle.std.specs.Int.{w32, w128}
use Rattle.std.proofs.lemmas.Int.{to_z-of_z}
use Rattle.fx_rational.specs.Rational.{floor_div, ceil_div, minus, negative, lowest}
use Rattle.fx_inequalities.specs.Formula.{unit_at}
use Rattle.fx_formulas.specs.Judging.{Forms}
use Rattle.fx_outward.specs.Grid.{lowest_dyadic, error_grid}
use Rattle.fx_outward.specs.Narrow.{narrow, unit_value}
use Rattle.fx_outward.specs.Exact.{scaled_top, scaled_bottom, unit_bottom}
use Rattle.fx_outward.specs.Wide.{IsEnd}
use Rattle.fx_outward.proofs.Casts.{back}
use Rattle.fx_formulas.proofs.LowestTerms.{lowest_negative}
use Rattle.fx_outward.proofs.ExactEnds.{input_down, input_up}
use Rattle.fx_outward.proofs.exact.input_error.Goals as goal

pub returns : goal.returns
returns c = λ r er.
    let q = c.to_fraction-c.result in let f = c.args.f in let e = error_grid f in
    let is = c.to_fraction-c.ensures ∙ ap lowest er in
    let turned = c.fneg-minus_c.ensures ∙ ap negative is ∙ lowest_negative r in
    let ft : FitsSigned w128 c.top_of.result = search rules in
    let fn : FitsSigned w128 c.minus_both-n.result = search rules in
    let fp : FitsSigned w128 c.numerator-p.result = search rules in
    let f32 : to_z w32 (of_z w32 f) ≡ f = to_z-of_z w32 f c.ranges.f in
    let t = back ft ∙ c.top_of.ensures.value ∙ ap (scaled_top q) f32 in
    let b = c.bottom_of.ensures.value ∙ ap (scaled_bottom q) f32 in
    let d = c.unit_of-d.ensures.value ∙ ap (unit_bottom q) f32 in
    let g = c.grid-e.ensures.value ∙ ap error_grid f32 in
    let z = back fn ∙ c.minus_both-n.ensures ∙ ap₂ (λ (x : ℤ) (k : ℕ). neg_ℤ x -ℤ pos k) t b in
    let p = back fp ∙ c.numerator-p.ensures.value in
    let k = c.from.ensures ∙ c.denominator-q.ensures.value in
    let lo = subst (IsEnd c.wide_down-lo.result) ((λ i. lowest_dyadic (floor_div (z i *ℤ pos (2 ^ (g i))) (d i)) (g i))
    ∙ input_down q r f e is) c.wide_down-lo.ensures in
    let hi = subst (IsEnd c.wide_up-hi.result) ((λ i. lowest_dyadic (ceil_div (p i *ℤ pos (2 ^ (g i))) (k i)) (g i))
    ∙ input_up q r f e is) c.wide_up-hi.ensures in
    c.input_answer.ensures e (record { lo = minus (negative r) (unit_value f); hi = r }) (unit_at f) r
    (c.ends-kept.ensures (narrow e (record { lo = minus (negative r) (unit_value f); hi = r })) lo hi)
    (subst (λ z. Forms c.unit.result (unit_at z)) f32 c.unit.ensures) turned is
