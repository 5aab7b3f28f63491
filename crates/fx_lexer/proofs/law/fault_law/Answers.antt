use Rattle.fx_lexer.proofs.PlaceLaws.{faults}
use Rattle.fx_lexer.proofs.law.fault_law.Goals as goal

pub returns : goal.returns
returns c = faults
