-- The command line as `clap` is told to read it: one level of commands, and no help.
use Rattle.std.specs.Prelude.{Some, true, codes, fold}
use Rattle.clap.specs.Walk.{Rule}
use Rattle.clap.specs.Simple.{App, new_app, new_rule, with_rule, with_subcommand}
use Rattle.clap.specs.declared.builder.action.ArgAction.TheVariants.{Set}
use Rattle.fx_arguments.specs.Grammar.{Bytes}
use Rattle.fx_arguments.specs.Command.{file_commands}

-- `--name VALUE`, which may be left out
abbrev pub option_rule : Bytes → Rule
option_rule name = record (new_rule name) { long = Some name; action = Some Set }

abbrev pub required_option_rule : Bytes → Rule
required_option_rule name = record (option_rule name) { required = true }

-- FILE, or the number of `demo`
abbrev pub file_rule : Rule
file_rule = record (new_rule (codes "file")) { action = Some Set; required = true }

-- a command that takes this one word alone
abbrev pub file_app : Bytes → App
file_app name = with_rule (new_app name) file_rule

-- the rows of many units
abbrev pub node_app : App
node_app = with_rule (with_rule (new_app (codes "node")) (required_option_rule (codes "units"))) file_rule

abbrev pub synth_app : App
synth_app =
    with_rule (with_rule (with_rule (with_rule (with_rule (with_rule (new_app (codes "synth"))
    (required_option_rule (codes "width"))) (option_rule (codes "function"))) (option_rule (codes "seed"))) (option_rule
    (codes "tries"))) (option_rule (codes "round"))) file_rule

-- the words without the program's name, which begin with a command's
abbrev pub top_app : App
top_app = record (new_app (codes "fixd")) {
  top = record (new_app (codes "fixd")).top {
    no_binary_name = true;
    disable_help_flag = true;
    disable_help_subcommand = true;
    disable_version_flag = true;
    subcommand_required = true;
  };
}

-- the line with the commands that take FILE alone
abbrev pub bundles_app : App
bundles_app = fold (λ app row. with_subcommand app (file_app row.0).top) top_app file_commands

-- the line with `node` too
abbrev pub rows_app : App
rows_app = with_subcommand bundles_app node_app.top

abbrev pub fixd_app : App
fixd_app = with_subcommand (with_subcommand rows_app synth_app.top) (file_app (codes "demo")).top
