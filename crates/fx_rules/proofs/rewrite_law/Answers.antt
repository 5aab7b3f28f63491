use Rattle.fx_rules.proofs.Whole.{rewrite_is}
use Rattle.fx_rules.proofs.rewrite_law.Goals as goal

pub returns : goal.returns
returns c = rewrite_is
