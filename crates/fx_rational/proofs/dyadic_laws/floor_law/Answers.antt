use Rattle.fx_rational.proofs.Floors.{floor_is}
use Rattle.fx_rational.proofs.dyadic_laws.floor_law.Goals as goal

pub returns : goal.returns
returns c = floor_is
