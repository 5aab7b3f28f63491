use Rattle.std.proofs.Common.{◌∙◌, subst, ap₂}
use Rattle.fx_rational.specs.Dyadic.{Dyadic, dyadic_value, least, greatest}
use Rattle.fx_outward.specs.Grid.{grid_down, grid_up}
use Rattle.fx_outward.specs.Narrow.{ratio}
use Rattle.fx_outward.specs.Narrowed.{IsIfSmall}
use Rattle.fx_outward.proofs.Ratios.{quotient_answer}
use Rattle.fx_outward.proofs.quotient.positive.Goals as goal

pub returns : goal.returns
returns c = λ s t fa fb.
    let down = λ (x y : Dyadic). grid_down 24 (ratio (dyadic_value x) (dyadic_value y)) in
    let up = λ (x y : Dyadic). grid_up 24 (ratio (dyadic_value x) (dyadic_value y)) in
    let d1 = c.ratio_down-d1.ensures ∙ ap₂ down c.low-al.ensures c.low-bl.ensures in
    let d2 = c.ratio_down-d2.ensures ∙ ap₂ down c.low-al.ensures c.high-bh.ensures in
    let u1 = c.ratio_up-u1.ensures ∙ ap₂ up c.high-ah.ensures c.low-bl.ensures in
    let u2 = c.ratio_up-u2.ensures ∙ ap₂ up c.high-ah.ensures c.high-bh.ensures in
    let lo = c.least.ensures ∙ ap₂ least d1 d2 in
    let hi = c.greatest.ensures ∙ ap₂ greatest u1 u2 in
    c.answer.ensures ∙ quotient_answer c.keep-kept.result c.args.a c.args.b s t c.requires.lo c.requires.hi
    c.requires.b.lo.small c.requires.b.hi.small fa fb
    (subst (IsIfSmall c.keep-kept.result) (λ i. record { lo = lo i; hi = hi i }) c.keep-kept.ensures)
