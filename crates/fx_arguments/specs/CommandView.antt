-- What contracts see of a command, of a fault, and of what `clap` found.
use Rattle.std.specs.Prelude.{List, Option, Some, None, option_and_then, ⊤}
use Rattle.std.specs.Option.{option_copied}
use Rattle.clap.specs.Walk.{Row, first_of}
use Rattle.fx_arguments.specs.Grammar.{Bytes}
use Rattle.fx_arguments.specs.Command as words
use Rattle.fx_arguments.specs.declared.command.Command.{Command}
use Rattle.fx_arguments.specs.declared.command.Command.TheVariants.{OnFile, Node, Synth, Demo}
use Rattle.fx_arguments.specs.declared.command.Synthesis.{Synthesis}
use Rattle.fx_arguments.specs.declared.command.WordFault.{WordFault}
use Rattle.fx_arguments.specs.declared.command.WordFault.TheVariants.{Usage, Memory}

abbrev pub synthesis_view : Synthesis → words.Synthesis
synthesis_view s = record { wanted = s.wanted; function = option_copied s.function; seed = s.seed; file = s.file.now }

-- the command that the words are
abbrev pub command_view : Command → words.Command
command_view (OnFile command file) = words.OnFile command file.now
command_view (Node units file) = words.Node units file.now
command_view (Synth s) = words.Synth (synthesis_view s)
command_view (Demo n) = words.Demo n

-- what holds where the words are at fault; there may be no memory at any time
abbrev pub IfUsage : WordFault → Type 0 → Type 0
IfUsage Usage P = P
IfUsage Memory P = ⊤

-- the command in the matches of a command's name
abbrev pub command_found : Option (Bytes × List Row) → Option words.Command
command_found None = None
command_found (Some p) =
    option_and_then (λ options. words.lawful_command p.0 options (λ name. first_of name p.1)) (words.options_of p.0)
