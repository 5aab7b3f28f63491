use Rattle.std.proofs.Common.{[], ◌∷◌, subst}
use Rattle.fx_inequalities.specs.Claim.{AboveFraction}
use Rattle.fx_formulas.specs.Judging.{Forms}
use Rattle.fx_formulas.proofs.Judged.{above_some, above_none}
use Rattle.fx_formulas.proofs.formula.is_above.Goals as goal

pub returns-in-Some : goal.returns-in-Some
returns-in-Some c = λ f r forms e. let k = subst (λ v. Forms v f) c.in-Some.is forms in
    c.judgement.ensures (AboveFraction r f ∷ []) (above_some c.dyadic_ge.result f r c.dyadic_ge.ensures k e)

pub returns-in-None : goal.returns-in-None
returns-in-None c = λ f r forms e. above_none f r (subst (λ v. Forms v f) c.in-None.is forms)
