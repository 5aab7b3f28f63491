use Rattle.fx_rational.proofs.Dyadics.{sum_is}
use Rattle.fx_rational.proofs.dyadic_laws.sum_law.Goals as goal

pub returns : goal.returns
returns c = sum_is
