use Rattle.std.proofs.Common.{subst, inl, inr}
use Rattle.fx_formulas.specs.Judging.{FormsSpan}
use Rattle.fx_template.proofs.Hulls.{hull_forms, hull_none}
use Rattle.fx_template.proofs.round.hull.Goals as goal

pub returns-in-Some-b : goal.returns-in-Some-b
returns-in-Some-b c = λ s t h k.
    hull_forms c.joined.result c.in-Some.x c.in-Some-b.y s t c.joined.ensures
    (subst (λ o. FormsSpan o s) c.in-Some.is h) (subst (λ o. FormsSpan o t) c.in-Some-b.is k)

pub returns-in-None-b : goal.returns-in-None-b
returns-in-None-b c = λ s t h k. hull_none s t (inr (subst (λ o. FormsSpan o t) c.in-None-b.is k))

pub returns-in-None : goal.returns-in-None
returns-in-None c = λ s t h k. hull_none s t (inl (subst (λ o. FormsSpan o s) c.in-None.is h))
