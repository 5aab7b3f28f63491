use Rattle.std.proofs.Common.{subst, inl, inr}
use Rattle.fx_formulas.specs.Judging.{Forms}
use Rattle.fx_formulas.proofs.Judged.{ends_forms, ends_none}
use Rattle.fx_formulas.proofs.formula.ends.Goals as goal

pub returns-in-Some-hi : goal.returns-in-Some-hi
returns-in-Some-hi c =
    λ f g h k. ends_forms c.in-Some.x c.in-Some-hi.y f g (subst (λ o. Forms o f) c.in-Some.is h)
    (subst (λ o. Forms o g) c.in-Some-hi.is k)

pub returns-in-None-hi : goal.returns-in-None-hi
returns-in-None-hi c = λ f g h k. ends_none f g (inr (subst (λ o. Forms o g) c.in-None-hi.is k))

pub returns-in-None : goal.returns-in-None
returns-in-None c = λ f g h k. ends_none f g (inl (subst (λ o. Forms o f) c.in-None.is h))
