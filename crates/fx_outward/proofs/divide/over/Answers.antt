use Rattle.std.proofs.Common.{◌≡◌, ◌∙◌, to_z, of_z, ap, subst, sym}
use Rattle.std.specs.Int.{w32}
use Rattle.std.proofs.lemmas.Int.{to_z-of_z}
use Rattle.fx_rational.specs.Interval.{Interval}
use Rattle.fx_formulas.specs.Judging.{FormsSpan}
use Rattle.fx_outward.specs.Narrow.{positive_bounds, widened}
use Rattle.fx_outward.specs.Dividing.{around_quotient}
use Rattle.fx_outward.proofs.Dividing.{above_formed, unit_over, over_beyond, beyond_around}
use Rattle.fx_outward.proofs.divide.over.Goals as goal

pub returns-in-None : goal.returns-in-None
returns-in-None c = λ s t fa fb short.
    let f = c.args.point in let b = c.args.b in
    let p = sym (above_formed b.lo t.lo (ap (λ (i : Interval). i.lo) fb.1)) ∙ c.requires.lo in
    let q = sym (above_formed b.hi t.hi (ap (λ (i : Interval). i.hi) fb.1)) ∙ c.requires.hi in
    beyond_around f s t (widened f (positive_bounds s t))
    (over_beyond f s t p (subst (λ o. FormsSpan o s) c.in-None.is fa)) ∙ unit_over f s t p q

pub returns-in-Some : goal.returns-in-Some
returns-in-Some c = λ s t fa fb short.
    let f = c.args.point in let f32 : to_z w32 (of_z w32 f) ≡ f = to_z-of_z w32 f c.ranges.point in let b = c.args.b in
    let p = sym (above_formed b.lo t.lo (ap (λ (i : Interval). i.lo) fb.1)) ∙ c.requires.lo in
    let q = sym (above_formed b.hi t.hi (ap (λ (i : Interval). i.hi) fb.1)) ∙ c.requires.hi in
    let fx = subst (λ o. FormsSpan o s) c.in-Some.is fa in
    c.fitted.ensures (widened (to_z w32 (of_z w32 f)) (positive_bounds s t)) s t fx fb short
    (c.unit_ends.ensures s t fx fb)
    ∙ (λ i. around_quotient (f32 i) (widened (f32 i) (positive_bounds s t)) s t) ∙ unit_over f s t p q
