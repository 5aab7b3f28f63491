use Rattle.std.proofs.Common.{◌∙◌, sym, subst, Some}
use Rattle.fx_rational.specs.Interval.{Interval}
use Rattle.fx_inequalities.specs.Formula.{span, zero_span, span_difference}
use Rattle.fx_formulas.specs.Judging.{FormsSpan}
use Rattle.fx_outward.proofs.Signs.{quotient_over, quotient_under, quotient_zero, plain_forms, opposite_forms}
use Rattle.fx_outward.proofs.quotient.quotient.Goals as goal

pub returns-then-both_above : goal.returns-then-both_above
returns-then-both_above c =
    let a = c.args.a in let b = c.args.b in
    c.positive.ensures (span a) (span b) (plain_forms a c.requires.a) (plain_forms b c.requires.b)
    ∙ quotient_over a b (sym c.if-both_above.ensures)

pub returns-then-both_below : goal.returns-then-both_below
returns-then-both_below c =
    let a = c.args.a in let b = c.args.b in
    c.positive-then-both_below.ensures (span_difference zero_span (span a)) (span_difference zero_span (span b))
    (subst (λ (i : Interval). FormsSpan (Some i) (span_difference zero_span (span a))) (sym c.opposite.ensures)
    (opposite_forms a c.requires.a))
    (subst (λ (i : Interval). FormsSpan (Some i) (span_difference zero_span (span b)))
    (sym c.opposite-then-both_below.ensures) (opposite_forms b c.requires.b))
    ∙ quotient_under a b (sym c.if-both_below.ensures)

pub returns : goal.returns
returns c = quotient_zero c.args.a c.args.b (sym c.if-both_above.ensures) (sym c.if-both_below.ensures)
