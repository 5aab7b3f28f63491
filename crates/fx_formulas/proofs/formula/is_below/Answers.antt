use Rattle.std.proofs.Common.{[], ◌∷◌, subst}
use Rattle.fx_inequalities.specs.Claim.{BelowFraction}
use Rattle.fx_formulas.specs.Judging.{Forms}
use Rattle.fx_formulas.proofs.Judged.{below_some, below_none}
use Rattle.fx_formulas.proofs.formula.is_below.Goals as goal

pub returns-in-Some : goal.returns-in-Some
returns-in-Some c = λ f r forms e. let k = subst (λ v. Forms v f) c.in-Some.is forms in
    c.judgement.ensures (BelowFraction f r ∷ []) (below_some c.dyadic_le.result f r c.dyadic_le.ensures k e)

pub returns-in-None : goal.returns-in-None
returns-in-None c = λ f r forms e. below_none f r (subst (λ v. Forms v f) c.in-None.is forms)
