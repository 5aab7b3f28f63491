use Rattle.fx_c99.proofs.COneText.{does_once}
use Rattle.fx_c99.proofs.does_once_law.Goals as goal

pub returns : goal.returns
returns c = does_once
