use Rattle.std.proofs.Common.{[], ◌∷◌, subst}
use Rattle.fx_inequalities.specs.Claim.{Below}
use Rattle.fx_formulas.specs.Judging.{Forms}
use Rattle.fx_formulas.proofs.Judged.{below_numbers}
use Rattle.fx_formulas.proofs.formula.is_at_most.Goals as goal

pub returns-in-Some-b : goal.returns-in-Some-b
returns-in-Some-b c =
    λ f g h k. c.judgement.ensures (Below f g ∷ [])
    (below_numbers c.in-Some.x c.in-Some-b.y f g c.dle.result (subst (λ o. Forms o f) c.in-Some.is h)
    (subst (λ o. Forms o g) c.in-Some-b.is k) c.dle.ensures)
