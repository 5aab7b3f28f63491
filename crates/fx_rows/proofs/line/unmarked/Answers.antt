use Rattle.std.proofs.Common.{sym}
use Rattle.fx_rows.proofs.PlainLines.{marked, no-mark}
use Rattle.fx_rows.proofs.line.unmarked.Goals as goal

pub returns-in-Some : goal.returns-in-Some
returns-in-Some c = marked c.args.line.now c.in-Some.rest.now c.in-Some.ensures.cases.0 c.in-Some.ensures.cases.1

pub returns-in-None : goal.returns-in-None
returns-in-None c = sym (no-mark c.args.line.now c.in-None.ensures.cases)
