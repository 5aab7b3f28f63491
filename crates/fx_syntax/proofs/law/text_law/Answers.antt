use Rattle.fx_syntax.proofs.Sources as sources
use Rattle.fx_syntax.proofs.law.text_law.Goals as goal

pub returns : goal.returns
returns c = sources.text_law
