use Rattle.fx_fraction.proofs.Quanta.{shifted_left_is}
use Rattle.fx_fraction.proofs.quantised.left.Goals as goal

pub returns : goal.returns
returns c = shifted_left_is c.args.v c.args.s c.requires.few c.ranges.v c.requires.fits
