use Rattle.fx_c99.proofs.COneText.{one_reading}
use Rattle.fx_c99.proofs.one_reading_law.Goals as goal

pub returns : goal.returns
returns c = one_reading
