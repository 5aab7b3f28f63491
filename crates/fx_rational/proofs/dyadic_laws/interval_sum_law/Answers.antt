use Rattle.fx_rational.proofs.DyadicIntervals.{sum_holds}
use Rattle.fx_rational.proofs.dyadic_laws.interval_sum_law.Goals as goal

pub returns : goal.returns
returns c = sum_holds
