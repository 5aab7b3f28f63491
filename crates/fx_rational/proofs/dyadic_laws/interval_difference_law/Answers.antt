use Rattle.fx_rational.proofs.DyadicIntervals.{difference_holds}
use Rattle.fx_rational.proofs.dyadic_laws.interval_difference_law.Goals as goal

pub returns : goal.returns
returns c = difference_holds
