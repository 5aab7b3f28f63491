use Rattle.fx_bundle_commands.specs.commands.Sheets.{written, unwritten}
use Rattle.fx_bundle_commands.proofs.report.print_report.Goals as goal

pub returns-in-Ok-clause-ended : goal.returns-in-Ok-clause-ended
returns-in-Ok-clause-ended g c = written c.in-Ok.ensures.all

pub returns-in-Err-clause-ended : goal.returns-in-Err-clause-ended
returns-in-Err-clause-ended g c = unwritten c.in-Err.ensures.cause.failed c.in-Err.ensures.front
