use Rattle.fx_rational.proofs.Dyadics.{product_is}
use Rattle.fx_rational.proofs.dyadic_laws.product_law.Goals as goal

pub returns : goal.returns
returns c = product_is
