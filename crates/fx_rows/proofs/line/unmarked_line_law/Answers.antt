use Rattle.fx_rows.proofs.PlainLines.{unmarked_plain_line}
use Rattle.fx_rows.proofs.line.unmarked_line_law.Goals as goal

pub returns : goal.returns
returns c = unmarked_plain_line c.args.line.now c.requires.plain c.requires.unmarked
