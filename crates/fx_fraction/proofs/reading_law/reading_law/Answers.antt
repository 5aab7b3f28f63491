use Rattle.fx_fraction.proofs.Values.{reading_is}
use Rattle.fx_fraction.proofs.reading_law.reading_law.Goals as goal

pub returns : goal.returns
returns c = reading_is
