use Rattle.std.proofs.Common.{subst, inl, inr}
use Rattle.fx_formulas.specs.Judging.{Forms}
use Rattle.fx_formulas.proofs.Judged.{product_forms, product_none}
use Rattle.fx_template.proofs.Near.{near_factors}
use Rattle.fx_template.proofs.product.product.Goals as goal

pub returns-in-Some-b : goal.returns-in-Some-b
returns-in-Some-b c = λ f g near h k.
    let v = subst (λ o. Forms o f) c.in-Some.is h in let w = subst (λ o. Forms o g) c.in-Some-b.is k in
    product_forms c.near_product.result c.in-Some.x c.in-Some-b.y f g
    (c.near_product.ensures (near_factors c.in-Some.x c.in-Some-b.y f g near v w)) v w

pub returns-in-None-b : goal.returns-in-None-b
returns-in-None-b c = λ f g near h k. product_none f g (inr (subst (λ o. Forms o g) c.in-None-b.is k))

pub returns-in-None : goal.returns-in-None
returns-in-None c = λ f g near h k. product_none f g (inl (subst (λ o. Forms o f) c.in-None.is h))
