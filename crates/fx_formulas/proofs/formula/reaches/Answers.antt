use Rattle.std.proofs.Common.{[], ◌∷◌}
use Rattle.fx_inequalities.specs.Claim.{BelowFraction, AboveFraction}
use Rattle.fx_formulas.proofs.formula.reaches.Goals as goal

pub returns : goal.returns
returns c =
    λ f g r s lo hi a b. c.and.ensures (BelowFraction f r ∷ []) (AboveFraction s g ∷ []) (c.is_below.ensures f r lo a)
    (c.is_above.ensures g s hi b)
