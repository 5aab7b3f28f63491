use Rattle.std.proofs.Common.{◌∙◌, Bool, ◌&&◌, ap, ap₂, sym}
use Rattle.fx_rational.specs.Interval.{Interval}
use Rattle.fx_outward.proofs.Dividing.{above_formed, below_formed, unit_zero}
use Rattle.fx_outward.proofs.divide.unit_quotient.Goals as goal

pub returns-else-both_below : goal.returns-else-both_below
returns-else-both_below c = λ s t fa fb short.
    let b = c.args.b in let lo = ap (λ (i : Interval). i.lo) fb.1 in let hi = ap (λ (i : Interval). i.hi) fb.1 in
    unit_zero c.args.point s t
    (ap₂ (λ (p q : Bool). p && q) (sym (above_formed b.lo t.lo lo)) (sym (above_formed b.hi t.hi hi))
    ∙ sym c.if-both_above.ensures)
    (ap₂ (λ (p q : Bool). p && q) (sym (below_formed b.lo t.lo lo)) (sym (below_formed b.hi t.hi hi))
    ∙ sym c.if-both_below.ensures)
