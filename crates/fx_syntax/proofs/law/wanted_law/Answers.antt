use Rattle.fx_syntax.proofs.Wanted as wanted
use Rattle.fx_syntax.proofs.law.wanted_law.Goals as goal

pub returns : goal.returns
returns c = wanted.wanted_law
