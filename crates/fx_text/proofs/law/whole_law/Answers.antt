use Rattle.fx_text.proofs.NumberLaws.{whole_takes, whole_again}
use Rattle.fx_text.proofs.law.whole_law.Goals as goal

pub returns-clause-takes : goal.returns-clause-takes
returns-clause-takes c = whole_takes

pub returns-clause-again : goal.returns-clause-again
returns-clause-again c = whole_again
