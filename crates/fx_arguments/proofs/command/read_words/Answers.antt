use Rattle.std.proofs.Common.{◌∙◌, sym, ap}
use Rattle.fx_arguments.specs.Command.{texts}
use Rattle.fx_arguments.specs.CommandView.{command_found}
use Rattle.fx_arguments.proofs.FirstFlags.{strings-have-first-flag}
use Rattle.fx_arguments.proofs.Reading.{found-is-command, refused-is-none, usage-by}
use Rattle.fx_arguments.proofs.command.read_words.Goals as goal

pub returns-in-Some-clause-command : goal.returns-in-Some-clause-command
returns-in-Some-clause-command c =
    sym (found-is-command (texts c.args.words.now) (strings-have-first-flag c.args.words.now) c.in-Ok.ensures.passed)
    ∙ ap command_found (sym c.in-Ok.ensures.found) ∙ sym c.in-Some.ensures.command

pub returns-in-Ok-clause-usage : goal.returns-in-Ok-clause-usage
returns-in-Ok-clause-usage c =
    sym (found-is-command (texts c.args.words.now) (strings-have-first-flag c.args.words.now) c.in-Ok.ensures.passed)
    ∙ ap command_found (sym c.in-Ok.ensures.found) ∙ sym c.in-None.ensures.command

pub returns-clause-usage : goal.returns-clause-usage
returns-clause-usage c =
    usage-by c.in-Err.fault _ _
    (refused-is-none (texts c.args.words.now) (strings-have-first-flag c.args.words.now)) c.in-Err.ensures.usage
