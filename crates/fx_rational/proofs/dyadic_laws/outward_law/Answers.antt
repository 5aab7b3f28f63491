use Rattle.fx_rational.proofs.DyadicIntervals.{outward_is}
use Rattle.fx_rational.proofs.dyadic_laws.outward_law.Goals as goal

pub returns : goal.returns
returns c = outward_is
