use Rattle.fx_syntax.proofs.Sources as sources
use Rattle.fx_syntax.proofs.law.read_is_spelled.Goals as goal

pub returns : goal.returns
returns c = sources.read_is_spelled
