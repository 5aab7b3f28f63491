use Rattle.fx_rational.proofs.Roundings.{rounded_up_is}
use Rattle.fx_rational.proofs.dyadic_laws.rounded_up_law.Goals as goal

pub returns : goal.returns
returns c = rounded_up_is
