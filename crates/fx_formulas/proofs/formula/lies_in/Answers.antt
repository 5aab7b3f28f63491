use Rattle.std.proofs.Common.{subst}
use Rattle.fx_inequalities.specs.Claim.{inside}
use Rattle.fx_formulas.specs.Judging.{FormsSpan}
use Rattle.fx_formulas.proofs.Judged.{inside_some}
use Rattle.fx_formulas.proofs.formula.lies_in.Goals as goal

pub returns-in-Some-limit : goal.returns-in-Some-limit
returns-in-Some-limit c =
    λ s t h k. c.judgement.ensures (inside s t)
    (inside_some c.in-Some.x c.in-Some-limit.y s t c.inside.result (subst (λ o. FormsSpan o s) c.in-Some.is h)
    (subst (λ o. FormsSpan o t) c.in-Some-limit.is k) c.inside.ensures)
