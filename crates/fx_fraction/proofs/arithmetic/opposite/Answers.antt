use Rattle.fx_fraction.proofs.Terms.{neg_fits}
use Rattle.fx_fraction.proofs.arithmetic.opposite.Goals as goal

pub returns : goal.returns
returns c = neg_fits c.args.x c.ranges.x c.requires
