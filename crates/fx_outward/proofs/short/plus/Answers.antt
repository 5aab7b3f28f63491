use Rattle.std.proofs.Common.{sym, subst}
use Rattle.fx_formulas.specs.Judging.{FormsSpan}
use Rattle.fx_outward.proofs.Shorts.{sum_formed}
use Rattle.fx_outward.proofs.short.plus.Goals as goal

pub returns-then-has_short_sum : goal.returns-then-has_short_sum
returns-then-has_short_sum c =
    λ s t h k. sum_formed c.in-Some.x c.in-Some-b.y c.short_interval_sum.result s t
    (sym c.if-has_short_sum.ensures) c.short_interval_sum.ensures
    (subst (λ o. FormsSpan o s) c.in-Some.is h) (subst (λ o. FormsSpan o t) c.in-Some-b.is k)
