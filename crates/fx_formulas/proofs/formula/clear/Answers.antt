use Rattle.std.proofs.Common.{[], ◌∷◌, subst}
use Rattle.fx_inequalities.specs.Claim.{Clear}
use Rattle.fx_formulas.specs.Judging.{FormsSpan}
use Rattle.fx_formulas.proofs.Judged.{clear_some}
use Rattle.fx_formulas.proofs.formula.clear.Goals as goal

pub returns-in-Some-b : goal.returns-in-Some-b
returns-in-Some-b c =
    λ s t h k. c.judgement.ensures (Clear s t ∷ [])
    (clear_some c.in-Some.x c.in-Some-b.y s t c.is_clear.result (subst (λ o. FormsSpan o s) c.in-Some.is h)
    (subst (λ o. FormsSpan o t) c.in-Some-b.is k) c.is_clear.ensures)
