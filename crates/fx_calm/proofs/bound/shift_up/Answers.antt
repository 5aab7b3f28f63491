use Rattle.fx_calm.proofs.Units.{shifted_code}
use Rattle.fx_calm.proofs.bound.shift_up.Goals as goal

pub returns : goal.returns
returns c = shifted_code c.args.f c.args.n c.two_to-unit.result c.two_to-unit.ensures.value
