use Rattle.fx_rational.proofs.Dyadics.{difference_is}
use Rattle.fx_rational.proofs.dyadic_laws.difference_law.Goals as goal

pub returns : goal.returns
returns c = difference_is
