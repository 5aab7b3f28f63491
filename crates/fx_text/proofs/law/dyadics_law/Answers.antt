use Rattle.fx_text.proofs.DyadicLaws.{dyadics_spelling}
use Rattle.fx_text.proofs.law.dyadics_law.Goals as goal

pub returns : goal.returns
returns c = dyadics_spelling
