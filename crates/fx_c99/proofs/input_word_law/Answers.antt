use Rattle.fx_c99.proofs.HeaderWords.{input_words_are}
use Rattle.fx_c99.proofs.input_word_law.Goals as goal

pub returns : goal.returns
returns c = input_words_are
