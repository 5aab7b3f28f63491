use Rattle.fx_plan_laws.proofs.Least.{test_is}
use Rattle.fx_plan_laws.proofs.calm_test_law.Goals as goal

pub returns : goal.returns
returns c = test_is
