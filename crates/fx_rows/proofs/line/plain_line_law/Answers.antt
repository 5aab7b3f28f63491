use Rattle.fx_rows.proofs.PlainLines.{whole_plain_line}
use Rattle.fx_rows.proofs.line.plain_line_law.Goals as goal

pub returns : goal.returns
returns c = whole_plain_line c.args.line.now c.requires
