use Rattle.fx_bundle_commands.proofs.FileEnds.{file_unopened, file_opened}
use Rattle.fx_bundle_commands.proofs.commands.sheet.print_file.Goals as goal

pub returns-in-Err : goal.returns-in-Err
returns-in-Err g c = file_unopened c.args.sheet _ _ _ _ c.in-Err.ensures.asked _ _ c.in-Err.ensures.failed

pub returns-in-Ok : goal.returns-in-Ok
returns-in-Ok g c =
    file_opened c.args.sheet _ _ _ _ c.in-Ok.ensures.asked _ _ _ _ c.in-Ok.opened.certified c.in-Ok.opened.source
    c.in-Ok.ensures.opened c.print_sheet.ensures.ended c.print_sheet.ensures.quiet
