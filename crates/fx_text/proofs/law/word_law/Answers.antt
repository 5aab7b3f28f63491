use Rattle.fx_text.proofs.FieldLaws.{word_takes, word_again}
use Rattle.fx_text.proofs.law.word_law.Goals as goal

pub returns-clause-takes : goal.returns-clause-takes
returns-clause-takes c = word_takes

pub returns-clause-again : goal.returns-clause-again
returns-clause-again c = word_again
