use Rattle.std.proofs.Common.{subst, inl, inr}
use Rattle.fx_formulas.specs.Judging.{FormsSpan}
use Rattle.fx_formulas.proofs.Judged.{times_forms, times_none}
use Rattle.fx_template.proofs.Near.{near_ends}
use Rattle.fx_template.proofs.product.times.Goals as goal

pub returns-in-Some-b : goal.returns-in-Some-b
returns-in-Some-b c = λ s t near h k.
    let v = subst (λ o. FormsSpan o s) c.in-Some.is h in let w = subst (λ o. FormsSpan o t) c.in-Some-b.is k in
    let n = near_ends c.in-Some.x c.in-Some-b.y s t near v w in
    times_forms c.near_times.result c.in-Some.x c.in-Some-b.y s t (c.near_times.ensures n.ll n.lh n.hl n.hh) v w

pub returns-in-None-b : goal.returns-in-None-b
returns-in-None-b c = λ s t near h k. times_none s t (inr (subst (λ o. FormsSpan o t) c.in-None-b.is k))

pub returns-in-None : goal.returns-in-None
returns-in-None c = λ s t near h k. times_none s t (inl (subst (λ o. FormsSpan o s) c.in-None.is h))
