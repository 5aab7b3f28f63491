use Rattle.fx_lexer.proofs.Layouts.{layout}
use Rattle.fx_lexer.proofs.law.layout_law.Goals as goal

pub returns : goal.returns
returns c = layout
