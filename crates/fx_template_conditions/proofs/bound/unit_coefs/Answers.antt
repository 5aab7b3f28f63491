use Rattle.fx_template_conditions.proofs.Shares.{unit_from}
use Rattle.fx_template_conditions.proofs.bound.unit_coefs.Goals as goal

pub returns : goal.returns
returns c = λ k. unit_from c.args.units.now c.args.i k c.requires.units c.requires.few
