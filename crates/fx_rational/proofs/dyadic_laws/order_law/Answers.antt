use Rattle.fx_rational.proofs.Dyadics.{at_most_law}
use Rattle.fx_rational.proofs.dyadic_laws.order_law.Goals as goal

pub returns : goal.returns
returns c = at_most_law
