use Rattle.std.proofs.Common.{refl}
use Rattle.fx_bundle_commands.specs.commands.Sheets.{written, unwritten, no_memory}
use Rattle.fx_bundle_commands.proofs.table.print_table.Goals as goal

pub returns-in_default-clause-ended : goal.returns-in_default-clause-ended
returns-in_default-clause-ended g c = no_memory refl

pub returns-in-Ok-put_table-clause-ended : goal.returns-in-Ok-put_table-clause-ended
returns-in-Ok-put_table-clause-ended g c = written c.in-Ok-put_table.ensures.all

pub returns-clause-ended : goal.returns-clause-ended
returns-clause-ended g c = unwritten c.in-Err.ensures.cause.failed c.in-Err.ensures.front
