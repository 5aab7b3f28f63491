use Rattle.fx_c99.proofs.Texts.{text_is}
use Rattle.fx_c99.proofs.text_law.Goals as goal

pub returns : goal.returns
returns c = text_is
