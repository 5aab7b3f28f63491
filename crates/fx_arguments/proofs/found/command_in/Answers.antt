use Rattle.std.proofs.Common.{◌≡◌, ◌∙◌, sym, ap, arith, false, Some}
use Rattle.std.specs.Str.{bytes_eq}
use Rattle.std.proofs.lemmas.Bool.{false_from_ne_true}
use Rattle.std.proofs.lemmas.Slice.Eq.{bytes_eq-Decides}
use Rattle.clap.specs.Walk.{first_of}
use Rattle.clap.specs.Words.{found_of, rows_of, subcommand_rows_of}
use Rattle.fx_arguments.specs.CommandView.{command_found}
use Rattle.fx_arguments.specs.Grammar.{Bytes}
use Rattle.fx_arguments.proofs.OnFile.{found-of-file}
use Rattle.fx_arguments.proofs.found.command_in.Goals.{After-file_command_in}
use Rattle.fx_arguments.proofs.found.command_in.Goals as goal

rows_are : (c : After-file_command_in) → Some (c.in_ok-name.name.now, rows_of (found_of c.in_ok-name.found.now))
    ≡ subcommand_rows_of c.args.matches.now
rows_are c = let e = c.in_ok-name.ensures in grind arith

differs : (name other : Bytes) → (name ≡ other → ⊥) → bytes_eq name other ≡ false
differs name other apart = false_from_ne_true (bytes_eq name other) (λ e. apart ((bytes_eq-Decides name other).0 e))

pub returns-in_default-clause-command : goal.returns-in_default-clause-command
returns-in_default-clause-command c =
    c.file_command_in.ensures.command
    ∙ sym (found-of-file c.in_ok-name.name.now (differs _ _ c.in_default.not-node) (differs _ _ c.in_default.not-synth)
    (differs _ _ c.in_default.not-demo) (λ name. first_of name (rows_of (found_of c.in_ok-name.found.now))))
    ∙ ap command_found (rows_are c)
