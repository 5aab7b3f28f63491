use Rattle.fx_name.proofs.Text.{no_name}
use Rattle.fx_name.proofs.name.Name.read.Goals as goal

pub returns-in_default : goal.returns-in_default
returns-in_default c = no_name c.args.bytes.now c.in_default.ensures.cases.0
