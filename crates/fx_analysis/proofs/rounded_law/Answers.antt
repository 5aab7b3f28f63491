use Rattle.fx_analysis.proofs.Rounded.{rounded_after}
use Rattle.fx_analysis.proofs.rounded_law.Goals as goal

pub returns : goal.returns
returns c = rounded_after
