use Rattle.fx_rational.proofs.Roundings.{rounded_down_is}
use Rattle.fx_rational.proofs.dyadic_laws.rounded_down_law.Goals as goal

pub returns : goal.returns
returns c = rounded_down_is
