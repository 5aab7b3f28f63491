use Rattle.fx_plan_laws.proofs.Searches.{first_is}
use Rattle.fx_plan_laws.proofs.first_true_law.Goals as goal

pub returns : goal.returns
returns c = first_is
