use Rattle.fx_rational.proofs.DyadicIntervals.{inside_holds}
use Rattle.fx_rational.proofs.dyadic_laws.inside_law.Goals as goal

pub returns : goal.returns
returns c = inside_holds
