use Rattle.fx_text.proofs.LineLaws.{line_text-cons}
use Rattle.fx_text.proofs.law.line_text_law.Goals as goal

pub returns : goal.returns
returns c = line_text-cons
