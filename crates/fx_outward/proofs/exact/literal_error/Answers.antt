use Rattle.std.proofs.Common.{◌≡◌, ◌∙◌, ◌^◌, ℕ, ℤ, pos, neg_ℤ, ◌*ℤ◌, ◌-ℤ◌, FitsSigned, to_z, of_z, rules, sym, subst, ap, ap₂}
use Rattle.std.specs.Int.{w32, w128}
use Rattle.std.proofs.lemmas.Int.{to_z-of_z}
use Rattle.fx_rational.specs.Rational.{floor, floor_div, ceil_div, scaled, minus}
use Rattle.fx_inequalities.specs.Formula.{formula_value, word_at}
use Rattle.fx_outward.specs.Grid.{lowest_dyadic, error_grid}
use Rattle.fx_outward.specs.Narrow.{narrow, single}
use Rattle.fx_formulas.specs.Judging.{Forms}
use Rattle.fx_outward.specs.Exact.{scaled_top, scaled_bottom, unit_bottom}
use Rattle.fx_outward.specs.Wide.{IsEnd}
use Rattle.fx_outward.proofs.Casts.{back}
use Rattle.fx_outward.proofs.Exacts.{literal_word}
use Rattle.fx_outward.proofs.ExactEnds.{literal_down, literal_up}
use Rattle.fx_outward.proofs.exact.literal_error.Goals as goal

pub returns : goal.returns
returns c =
    let q = c.args.c in let f = c.args.f in let e = error_grid f in let r = c.rest_below-r.result in
    let ft : FitsSigned w128 c.top_of-top.result = search rules in
    let fw : FitsSigned w128 c.whole-w.result = search rules in
    let fs : FitsSigned w128 c.signed.result = search rules in
    let fn : FitsSigned w128 c.negate-n.result = search rules in
    let f32 : to_z w32 (of_z w32 f) ≡ f = to_z-of_z w32 f c.ranges.f in
    let t = back ft ∙ c.top_of-top.ensures.value ∙ ap (scaled_top q) f32 in
    let b = c.bottom_of-bottom.ensures.value ∙ ap (scaled_bottom q) f32 in
    let d = c.unit_of-d.ensures.value ∙ ap (unit_bottom q) f32 in
    let g = c.grid-e.ensures.value ∙ ap error_grid f32 in
    let z = back fn ∙ c.negate-n.ensures ∙ ap neg_ℤ (back fs ∙ c.signed.ensures) in
    let left = c.rest_below-r.ensures.value ∙ ap₂ (λ (x : ℤ) (k : ℕ). x -ℤ floor_div x k *ℤ pos k) t b in
    let word = back fw ∙ c.whole-w.ensures ∙ ap₂ floor_div t b ∙ sym (literal_word q f) in
    let lo = subst (IsEnd c.wide_down.result) ((λ i. lowest_dyadic (floor_div (z i *ℤ pos (2 ^ (g i))) (d i)) (g i))
    ∙ literal_down q f e r left) c.wide_down.ensures in
    let hi = subst (IsEnd c.wide_up.result) ((λ i. lowest_dyadic (ceil_div (z i *ℤ pos (2 ^ (g i))) (d i)) (g i))
    ∙ literal_up q f e r left) c.wide_up.ensures in
    let bounds = single (minus (formula_value (word_at (floor (scaled q f)) f)) q) in
    c.literal_answer.ensures e bounds (word_at (floor (scaled q f)) f) (c.ends-kept.ensures (narrow e bounds) lo hi)
    (subst (Forms c.word_of.result) (ap₂ word_at word f32) c.word_of.ensures)
