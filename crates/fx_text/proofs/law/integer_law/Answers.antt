use Rattle.fx_text.proofs.NumberLaws.{integer_takes, integer_again}
use Rattle.fx_text.proofs.law.integer_law.Goals as goal

pub returns-clause-takes : goal.returns-clause-takes
returns-clause-takes c = integer_takes

pub returns-clause-again : goal.returns-clause-again
returns-clause-again c = integer_again
