use Rattle.fx_plan_laws.proofs.Planned.{plan_is}
use Rattle.fx_plan_laws.proofs.calm_law.Goals as goal

pub returns : goal.returns
returns c = plan_is
