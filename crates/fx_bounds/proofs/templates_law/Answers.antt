use Rattle.fx_bounds.proofs.Sums.{within_bound}
use Rattle.fx_bounds.proofs.templates_law.Goals as goal

pub returns : goal.returns
returns c = within_bound
