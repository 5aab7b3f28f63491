use Rattle.std.proofs.Common.{ℤ, [], ◌∷◌, ap, ◌∙◌}
use Rattle.std.specs.Int.{w32, w64}
use Rattle.std.proofs.lemmas.Int.{to_z-of_z}
use Rattle.fx_inequalities.specs.Accepted.{start_of}
use Rattle.fx_inequalities.specs.Claim.{AboveFraction, BelowFraction}
use Rattle.fx_inequalities.specs.Formula.{Difference, Span, word_at}
use Rattle.fx_formulas.specs.Judging.{judged}
use Rattle.fx_cert.specs.CertificateView.{boxes_in}
use Rattle.fx_template_conditions.specs.Boxes.{box_at}
use Rattle.fx_cert.specs.declared.side.Side.TheVariants as sides
use Rattle.fx_template_conditions.proofs.start.start_judgement.Goals as goal

pub returns : goal.returns
returns c =
    let a = c.args in let x = start_of a.function.now a.k in
    let inside = λ (s : Span). BelowFraction s.lo x ∷ AboveFraction x s.hi ∷ [] in
    let near = λ (w f : ℤ) (s : Span). BelowFraction (Difference (word_at w f) s.hi) x
    ∷ AboveFraction x (Difference (word_at w f) s.lo) ∷ [] in
    let value = c.fraction_within-value.ensures x c.start_fraction-x.ensures
    ∙ ap (λ (s : Span). judged (inside s)) c.box_interval.ensures in
    let error = c.word_near-error.ensures x c.start_fraction-x.ensures
    ∙ (λ i. judged (near (to_z-of_z w64 a.word c.ranges.word i) (to_z-of_z w32 a.place c.ranges.place i)
    (c.box_interval-2.ensures i))) in
    c.and.ensures (inside (box_at sides.Value (boxes_in a.starts.now) a.k))
    (near a.word a.place (box_at sides.Error (boxes_in a.starts.now) a.k)) value error
