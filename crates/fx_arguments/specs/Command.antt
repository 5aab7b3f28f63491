-- The command that the words are.
use Rattle.std.specs.Prelude.{ℕ, ◌-◌, ◌^◌, ◌≤◌, List, [], ◌∷◌, map, find, codes, string_bytes, String, Option, Some, None, option_map, option_and_then, if◌then◌else◌}
use Rattle.std.specs.Str.{bytes_eq}
use Rattle.std.specs.declared.alloc.Global.{Global}
use Rattle.fx_program.specs.declared.code.Round.{Round}
use Rattle.fx_wanted.specs.Asked.{IsLawfulWanted, tries_limit}
use Rattle.fx_wanted.specs.declared.wanted.Wanted.{Wanted}
use Rattle.fx_arguments.specs.Grammar.{Bytes, entries_in, once, value_named, have_values}
use Rattle.fx_arguments.specs.Numbers.{demo_number, number_or, units_given, width_given}
use Rattle.fx_arguments.specs.Rounding.{round_given}
use Rattle.fx_arguments.specs.declared.command.FileCommand.{FileCommand}
use Rattle.fx_arguments.specs.declared.command.FileCommand.TheVariants.{Run, Check, Show, Migrate, Mixed, Widths, Rust}

-- the commands that take FILE alone, by their names
abbrev pub file_commands : List (Bytes × FileCommand)
file_commands =
    (codes "run", Run) ∷ (codes "check", Check) ∷ (codes "show", Show) ∷ (codes "migrate", Migrate)
    ∷ (codes "mixed", Mixed) ∷ (codes "widths", Widths) ∷ (codes "rust", Rust) ∷ []

-- what a synthesis is asked for
pub record Synthesis : Type 0 where
  pub wanted : Wanted
  pub function : Option Bytes
  pub seed : ℕ
  pub file : Bytes

-- what is to be done
pub data Command : Type 0 where
  OnFile : FileCommand → (file : Bytes) → Command
  Node : (units : ℕ) (file : Bytes) → Command
  Synth : Synthesis → Command
  Demo : (n : ℕ) → Command

-- each word as its bytes
abbrev pub texts : List (String Global) → List Bytes
texts words = map (λ w. string_bytes w) words

abbrev pub node_options : List Bytes
node_options = codes "units" ∷ []

abbrev pub synth_options : List Bytes
synth_options = codes "width" ∷ codes "function" ∷ codes "seed" ∷ codes "tries" ∷ codes "round" ∷ []

-- what is asked of a synthesis, where nothing is wrong or missing
abbrev pub wanted_of : Option ℕ → Option ℕ → Option Round → Option Wanted
wanted_of (Some width) (Some tries) (Some round) = Some (record { width = width; tries = tries; round = round })
wanted_of width tries round = None

-- a synthesis, likewise
abbrev pub synthesis_of : Option Wanted → Option Bytes → Option ℕ → Option Bytes → Option Command
synthesis_of (Some wanted) function (Some seed) (Some file) =
    Some (Synth (record { wanted = wanted; function = function; seed = seed; file = file }))
synthesis_of wanted function seed file = None

-- both from what is given under each name
abbrev pub wanted_given : (Bytes → Option Bytes) → Option Wanted
wanted_given given =
    wanted_of (width_given (given (codes "width"))) (number_or 200 tries_limit (given (codes "tries")))
    (round_given (given (codes "round")))

abbrev pub synthesis_given : (Bytes → Option Bytes) → Option Command
synthesis_given given =
    synthesis_of (wanted_given given) (given (codes "function")) (number_or 0 (2 ^ 64 - 1) (given (codes "seed")))
    (given (codes "file"))

-- a run of so many units, where neither the number nor the file is missing or wrong
abbrev pub node_of : Option ℕ → Option Bytes → Option Command
node_of (Some units) (Some file) = Some (Node units file)
node_of units file = None

abbrev pub node_given : (Bytes → Option Bytes) → Option Command
node_given given = node_of (units_given (given (codes "units"))) (given (codes "file"))

-- a demonstration of this number
abbrev pub demo_given : Option Bytes → Option Command
demo_given text = option_map Demo (option_and_then demo_number text)

-- the command of this name that takes FILE alone
abbrev pub on_file : Bytes → Option FileCommand
on_file word = option_map (λ row. row.1) (find (λ row. bytes_eq row.0 word) file_commands)

-- the command of this name on this FILE, where both are there
abbrev pub file_command_given : Bytes → Option Bytes → Option Command
file_command_given word file = option_and_then (λ command. option_map (OnFile command) file) (on_file word)

-- the options of the command of this name
abbrev pub options_of : Bytes → Option (List Bytes)
options_of word =
    if bytes_eq word (codes "node") then Some node_options
    else if bytes_eq word (codes "synth") then Some synth_options
    else if bytes_eq word (codes "demo") then Some []
    else option_map (λ command. []) (on_file word)

-- the command of this name, from what is given under each name of an option and under `file`, where the number of
-- `demo` stands too
abbrev pub command_given : Bytes → (Bytes → Option Bytes) → Option Command
command_given word given =
    if bytes_eq word (codes "node") then node_given given
    else if bytes_eq word (codes "synth") then synthesis_given given
    else if bytes_eq word (codes "demo") then demo_given (given (codes "file"))
    else file_command_given word (given (codes "file"))

-- the same, where the value of each of these options is one
abbrev pub lawful_command : Bytes → List Bytes → (Bytes → Option Bytes) → Option Command
lawful_command word options given = if have_values options given then command_given word given else None

-- a synthesis is at one of the widths, with at most so many tries; a run has from 1 to 1,024 units, and a demonstration
-- a number from 1 to 500
abbrev pub IsLawfulCommand : Command → Type 0
IsLawfulCommand (Synth s) = IsLawfulWanted s.wanted
IsLawfulCommand (Node units file) = (1 ≤ units) × (units ≤ 1024)
IsLawfulCommand (Demo n) = (1 ≤ n) × (n ≤ 500)
IsLawfulCommand command = Unit {0}

-- the command of the words, where they are one: its name, and then its options and FILE, or the number of `demo`
abbrev pub command_of : List Bytes → Option Command
command_of [] = None
command_of (word ∷ words) =
    option_and_then (λ options.
    option_and_then (λ entries. lawful_command word options (value_named entries))
    (once (entries_in options words None)))
    (options_of word)
