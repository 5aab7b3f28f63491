use Rattle.std.proofs.Common.{sym, subst}
use Rattle.fx_formulas.specs.Judging.{FormsSpan}
use Rattle.fx_outward.proofs.Shorts.{product_formed}
use Rattle.fx_outward.proofs.short.times.Goals as goal

pub returns-then-has_short_product : goal.returns-then-has_short_product
returns-then-has_short_product c =
    λ s t m n h k. product_formed c.in-Some.x c.in-Some-b.y c.short_interval_product.result s t
    (sym c.if-has_short_product.ensures) c.short_interval_product.ensures
    (subst (λ o. FormsSpan o s) c.in-Some.is h) (subst (λ o. FormsSpan o t) c.in-Some-b.is k)
