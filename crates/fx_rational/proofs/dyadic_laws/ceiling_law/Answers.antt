use Rattle.fx_rational.proofs.Floors.{ceiling_is}
use Rattle.fx_rational.proofs.dyadic_laws.ceiling_law.Goals as goal

pub returns : goal.returns
returns c = ceiling_is
