use Rattle.std.proofs.Common.{◌≡◌, ◌∙◌, FitsSigned, to_z, of_z, rules, sym, ap, ap₂}
use Rattle.std.specs.Int.{w32, w128}
use Rattle.std.proofs.lemmas.Int.{to_z-of_z}
use Rattle.fx_rational.specs.Rational.{floor_div}
use Rattle.fx_outward.specs.Exact.{scaled_top, scaled_bottom}
use Rattle.fx_outward.proofs.Casts.{back}
use Rattle.fx_outward.proofs.Exacts.{literal_word}
use Rattle.fx_outward.proofs.exact.floor_at.Goals as goal

pub returns : goal.returns
returns c =
    let q = c.args.c in let f = c.args.f in
    let ft : FitsSigned w128 c.top_of-top.result = search rules in
    let fw : FitsSigned w128 c.whole.result = search rules in
    let f32 : to_z w32 (of_z w32 f) ≡ f = to_z-of_z w32 f c.ranges.f in
    let t = back ft ∙ c.top_of-top.ensures.value ∙ ap (scaled_top q) f32 in
    let b = c.bottom_of-bottom.ensures.value ∙ ap (scaled_bottom q) f32 in
    back fw ∙ c.whole.ensures ∙ ap₂ floor_div t b ∙ sym (literal_word q f)
