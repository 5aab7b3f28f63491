use Rattle.fx_outward.proofs.parts.+raised.Given as goal

abbrev pub decreases-raised : goal.decreases-raised
decreases-raised l = l.t
