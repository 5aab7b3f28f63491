use Rattle.fx_syntax.proofs.Sources as sources
use Rattle.fx_syntax.proofs.law.one_meaning.Goals as goal

pub returns : goal.returns
returns c = sources.one_meaning
