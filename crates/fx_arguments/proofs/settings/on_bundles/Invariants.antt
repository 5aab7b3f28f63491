use Rattle.std.proofs.Common.{◌≡◌, Bor, take}
use Rattle.std.specs.List.{fold}
use Rattle.clap.specs.Simple.{App, with_subcommand}
use Rattle.clap.specs.Words.{app_of}
use Rattle.fx_arguments.specs.App.{file_app, top_app}
use Rattle.fx_arguments.specs.Grammar.{Bytes}
use Rattle.fx_arguments.specs.declared.command.FileCommand.{FileCommand}
use Rattle.fx_arguments.proofs.settings.on_bundles.Given as goal

-- with the command of one row more
abbrev pub with_row : App → Bor Bytes × FileCommand → App
with_row app row = with_subcommand app (file_app row.0.now).top

abbrev pub invariant-loop-name : goal.invariant-loop-name
invariant-loop-name l = app_of l.line ≡ fold with_row top_app (take l.name-index l.name-items)
