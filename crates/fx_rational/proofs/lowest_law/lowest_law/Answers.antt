use Rattle.fx_rational.proofs.Lowest.{lowest_is}
use Rattle.fx_rational.proofs.lowest_law.lowest_law.Goals as goal

pub returns : goal.returns
returns c = lowest_is
