use Rattle.std.proofs.Common.{subst, inl, inr}
use Rattle.fx_formulas.specs.Judging.{Forms}
use Rattle.fx_formulas.proofs.Judged.{product_forms, product_none, short_number}
use Rattle.fx_formulas.proofs.formula.product.Goals as goal

pub returns-in-Some-b : goal.returns-in-Some-b
returns-in-Some-b c =
    λ f g s t h k. product_forms c.near_product.result c.in-Some.x c.in-Some-b.y f g
    (c.near_product.ensures (short_number (subst (λ o. Forms o f) c.in-Some.is h) s)
    (short_number (subst (λ o. Forms o g) c.in-Some-b.is k) t)) (subst (λ o. Forms o f) c.in-Some.is h) (subst
    (λ o. Forms o g) c.in-Some-b.is k)

pub returns-in-None-b : goal.returns-in-None-b
returns-in-None-b c = λ f g s t h k. product_none f g (inr (subst (λ o. Forms o g) c.in-None-b.is k))

pub returns-in-None : goal.returns-in-None
returns-in-None c = λ f g s t h k. product_none f g (inl (subst (λ o. Forms o f) c.in-None.is h))
