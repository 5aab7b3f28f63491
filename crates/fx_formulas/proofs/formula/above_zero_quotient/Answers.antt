use Rattle.std.proofs.Common.{subst}
use Rattle.fx_formulas.specs.Judging.{FormsSpan}
use Rattle.fx_formulas.proofs.Judged.{dividend_none, divisor_none, limit_none}
use Rattle.fx_formulas.proofs.formula.above_zero_quotient.Goals as goal

pub returns-in-None-c : goal.returns-in-None-c
returns-in-None-c c = λ s t u m n h j k. limit_none s t u (subst (λ o. FormsSpan o u) c.in-None-c.is k)

pub returns-in-None-b : goal.returns-in-None-b
returns-in-None-b c = λ s t u m n h j k. divisor_none s t u (subst (λ o. FormsSpan o t) c.in-None-b.is j)

pub returns-in-None : goal.returns-in-None
returns-in-None c = λ s t u m n h j k. dividend_none s t u (subst (λ o. FormsSpan o s) c.in-None.is h)
