use Rattle.fx_outward.proofs.Narrowest.{narrow_is}
use Rattle.fx_outward.proofs.narrow_law.Goals as goal

pub returns : goal.returns
returns c = narrow_is
