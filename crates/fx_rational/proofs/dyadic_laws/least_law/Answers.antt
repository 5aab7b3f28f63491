use Rattle.fx_rational.proofs.Dyadics.{least_is}
use Rattle.fx_rational.proofs.dyadic_laws.least_law.Goals as goal

pub returns : goal.returns
returns c = least_is
