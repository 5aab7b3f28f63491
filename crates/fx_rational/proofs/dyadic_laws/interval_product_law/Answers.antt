use Rattle.fx_rational.proofs.DyadicIntervals.{product_holds}
use Rattle.fx_rational.proofs.dyadic_laws.interval_product_law.Goals as goal

pub returns : goal.returns
returns c = product_holds
