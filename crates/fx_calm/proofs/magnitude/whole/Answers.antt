use Rattle.fx_calm.proofs.Sizes.{whole_size}
use Rattle.fx_calm.proofs.magnitude.whole.Goals as goal

pub returns-clause-value : goal.returns-clause-value
returns-clause-value c = whole_size c.args.n
