use Rattle.fx_syntax.proofs.Sources as sources
use Rattle.fx_syntax.proofs.law.spelled_is_read.Goals as goal

pub returns : goal.returns
returns c = sources.spelled_is_read
