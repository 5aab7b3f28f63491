use Rattle.std.proofs.Common.{arith}
use Rattle.fx_template_conditions.proofs.Shares.{unit_among}
use Rattle.fx_template_conditions.proofs.bound.units.Goals as goal

pub returns : goal.returns
returns c = λ j. unit_among 192 95 j c.zero-units.result c.zero-units.ensures (omega arith)
