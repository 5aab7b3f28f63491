use Rattle.std.proofs.Common.{subst, sym, ap, ◌∙◌}
use Rattle.fx_rational.specs.Interval.{Interval}
use Rattle.fx_inequalities.specs.Formula.{zero_span, span_difference}
use Rattle.fx_formulas.specs.Judging.{FormsSpan}
use Rattle.fx_formulas.proofs.Shorts.{short_zero, short_span_difference}
use Rattle.fx_formulas.proofs.Judged.{quotient_none, quotient_above, quotient_else, positive_formed}
use Rattle.fx_formulas.proofs.formula.quotient.Goals as goal

pub returns-then-is_above_zero : goal.returns-then-is_above_zero
returns-then-is_above_zero c = λ s t u m n h j k.
    let b = subst (λ o. FormsSpan o t) c.in-Some.is j in
    let sign = positive_formed c.y.inside.lo t.lo (ap (λ (y : Interval). y.lo) (c.y.view_is ∙ b.1)) in
    quotient_above s t u c.above_zero_quotient.result (sym (c.is_above_zero.ensures ∙ sign)
    ∙ c.if-is_above_zero.true) (c.above_zero_quotient.ensures s t u m n h b k)

pub returns-else-is_above_zero : goal.returns-else-is_above_zero
returns-else-is_above_zero c = λ s t u m n h j k.
    let b = subst (λ o. FormsSpan o t) c.in-Some.is j in
    let sign = positive_formed c.y.inside.lo t.lo (ap (λ (y : Interval). y.lo) (c.y.view_is ∙ b.1)) in
    let z = span_difference zero_span s in let w = span_difference zero_span t in
    quotient_else s t u c.above_zero_quotient-else-is_above_zero.result (sym (c.is_above_zero.ensures ∙ sign)
    ∙ c.if-is_above_zero.false)
    (c.above_zero_quotient-else-is_above_zero.ensures z w u (short_span_difference (short_zero 512) m) n
    (c.minus.ensures zero_span s c.zero.ensures h)
    (c.minus-else-is_above_zero.ensures zero_span t c.zero-else-is_above_zero.ensures b) k)

pub returns-in-None : goal.returns-in-None
returns-in-None c = λ s t u m n h j k. quotient_none s t u (subst (λ o. FormsSpan o t) c.in-None.is j)
