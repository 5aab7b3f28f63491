use Rattle.fx_rational.proofs.Dyadics.{greatest_is}
use Rattle.fx_rational.proofs.dyadic_laws.greatest_law.Goals as goal

pub returns : goal.returns
returns c = greatest_is
