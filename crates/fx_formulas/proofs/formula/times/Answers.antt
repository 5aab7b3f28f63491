use Rattle.std.proofs.Common.{subst, inl, inr}
use Rattle.fx_formulas.specs.Judging.{FormsSpan}
use Rattle.fx_formulas.proofs.Judged.{times_forms, times_none, short_interval}
use Rattle.fx_formulas.proofs.formula.times.Goals as goal

pub returns-in-Some-b : goal.returns-in-Some-b
returns-in-Some-b c = λ s t m n h k. let v = short_interval (subst (λ o. FormsSpan o s) c.in-Some.is h) m in
    let w = short_interval (subst (λ o. FormsSpan o t) c.in-Some-b.is k) n in
    times_forms c.near_times.result c.in-Some.x c.in-Some-b.y s t (c.near_times.ensures v.0 v.1 w.0 w.1)
    (subst (λ o. FormsSpan o s) c.in-Some.is h) (subst (λ o. FormsSpan o t) c.in-Some-b.is k)

pub returns-in-None-b : goal.returns-in-None-b
returns-in-None-b c = λ s t m n h k. times_none s t (inr (subst (λ o. FormsSpan o t) c.in-None-b.is k))

pub returns-in-None : goal.returns-in-None
returns-in-None c = λ s t m n h k. times_none s t (inl (subst (λ o. FormsSpan o s) c.in-None.is h))
