use Rattle.std.proofs.Common.{◌≡◌, ◌∙◌, inl, inr, to_z, of_z, subst}
use Rattle.std.specs.Int.{w32}
use Rattle.std.proofs.lemmas.Int.{to_z-of_z}
use Rattle.fx_inequalities.specs.Formula.{zero_span, span_difference}
use Rattle.fx_formulas.specs.Judging.{FormsSpan}
use Rattle.fx_formulas.proofs.Judged.{minus_none}
use Rattle.fx_outward.specs.Dividing.{unit_quotient}
use Rattle.fx_outward.proofs.Dividing.{under_fails}
use Rattle.fx_outward.proofs.divide.under.Goals as goal

pub returns-in-None : goal.returns-in-None
returns-in-None c = λ s t fa fb short.
    under_fails c.args.point c.args.b s t c.requires.below fb
    (inl (minus_none zero_span s (inr (subst (λ o. FormsSpan o s) c.in-None.is fa))))

pub returns-in-None-minus : goal.returns-in-None-minus
returns-in-None-minus c = λ s t fa fb short.
    let fx = subst (λ o. FormsSpan o s) c.in-Some.is fa in
    under_fails c.args.point c.args.b s t c.requires.below fb
    (inl (subst (λ o. FormsSpan o (span_difference zero_span s)) c.in-None-minus.is
    (c.minus.ensures zero_span s c.zero.ensures fx)))

pub returns-in-None-minus-2 : goal.returns-in-None-minus-2
returns-in-None-minus-2 c = λ s t fa fb short.
    under_fails c.args.point c.args.b s t c.requires.below fb
    (inr (subst (λ o. FormsSpan o (span_difference zero_span t)) c.in-None-minus-2.is
    (c.minus-in-Some-minus.ensures zero_span t c.zero-in-Some-minus.ensures fb)))

pub returns-in-Some-minus-2 : goal.returns-in-Some-minus-2
returns-in-Some-minus-2 c = λ s t fa fb short.
    let f = c.args.point in let f32 : to_z w32 (of_z w32 f) ≡ f = to_z-of_z w32 f c.ranges.point in
    let v = span_difference zero_span s in let w = span_difference zero_span t in
    let fx = subst (λ o. FormsSpan o s) c.in-Some.is fa in
    let fy = subst (λ o. FormsSpan o v) c.in-Some-minus.is (c.minus.ensures zero_span s c.zero.ensures fx) in
    let fz =
    subst (λ o. FormsSpan o w) c.in-Some-minus-2.is
    (c.minus-in-Some-minus.ensures zero_span t c.zero-in-Some-minus.ensures fb) in
    c.turned.ensures s t fx fb fy fz short c.requires.below ∙ (λ i. unit_quotient (f32 i) s t)
