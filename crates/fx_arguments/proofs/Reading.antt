-- What `clap` finds is the command that the words are, and where it refuses them they are none.
use Rattle.std.proofs.Common.{◌≡◌, ◌≢◌, Bool, true, false, ◌&&◌, inl, inr, List, [], ◌∷◌, Option, Some, None, refl, ap, ◌∙◌, sym}
use Rattle.std.specs.Prelude.{if◌then◌else◌, option_and_then, ◌⊎◌}
use Rattle.std.proofs.lemmas.Bool.{and_parts}
use Rattle.clap.specs.Walk.{first_of, rows_after}
use Rattle.clap.specs.Simple.{subcommand_of}
use Rattle.clap.specs.Kinds.{Kinds}
use Rattle.clap.specs.Faults.{fault_of}
use Rattle.fx_arguments.specs.App.{fixd_app}
use Rattle.fx_arguments.specs.Command.{Command, command_of, lawful_command}
use Rattle.fx_arguments.specs.CommandView.{IfUsage, command_found}
use Rattle.fx_arguments.specs.declared.command.WordFault.{WordFault}
use Rattle.fx_arguments.specs.declared.command.WordFault.TheVariants.{Usage, Memory}
use Rattle.fx_arguments.specs.Grammar.{Bytes, Entry, entries_in, have_values, once, stand_once, value_named}
use Rattle.fx_arguments.proofs.Pending.{has_required, is_nil, settled_now}
use Rattle.fx_arguments.proofs.OneWord.{AllHaveFirstFlag}
use Rattle.fx_arguments.proofs.AllWords.{leaf-takes, words_pass}
use Rattle.fx_arguments.proofs.FoundRows.{first-value, leaf-rows}
use Rattle.fx_arguments.proofs.Options.{option_names, options-are-taken, options_rules}
use Rattle.fx_arguments.proofs.Commands.{IsCommand, IsNone, after-another, no-words, which-command}

nil-is-none : (k : Kinds) → k ≡ [] → is_nil k ≡ true
nil-is-none [] e = refl
nil-is-none (x ∷ k) e = absurd (cc)

some-is-not-nil : (k : Kinds) → k ≢ [] → is_nil k ≡ false
some-is-not-nil [] n = absurd (n refl)
some-is-not-nil (x ∷ k) n = refl

module _ (name : Bytes) (C : IsCommand name) (rest : List Bytes) where
  abbrev names : List Bytes
  names = option_names C.options

  abbrev made_of : Option (List Entry) → Option Command
  made_of r = option_and_then (λ entries. lawful_command name names (value_named entries)) (once r)

  passes-where-taken : AllHaveFirstFlag rest →
      is_nil (fault_of fixd_app (name ∷ rest))
      ≡ words_pass (options_rules C.options) [] settled_now (entries_in names rest None)
  passes-where-taken flagged = C.faults rest
      ∙ leaf-takes name names (options_rules C.options) (options-are-taken C.options C.apart) rest flagged

  command-of-entries : command_of (name ∷ rest) ≡ made_of (entries_in names rest None)
  command-of-entries =
      ap (λ o. option_and_then
      (λ options. option_and_then (λ entries. lawful_command name options (value_named entries))
      (once (entries_in options rest None))) o) C.known

  command-of-rows : command_found (subcommand_of fixd_app (name ∷ rest))
      ≡ lawful_command name names (λ id. first_of id (rows_after (options_rules C.options) [] rest))
  command-of-rows =
      ap command_found (C.rows rest)
      ∙ ap (λ o. option_and_then
      (λ options. lawful_command name options
      (λ id. first_of id (rows_after (options_rules C.options) [] rest))) o) C.known

  made-where-it-passes : (r : Option (List Entry)) → entries_in names rest None ≡ r →
      words_pass (options_rules C.options) [] settled_now r ≡ true
      → lawful_command name names (λ id. first_of id (rows_after (options_rules C.options) [] rest)) ≡ made_of r
  made-where-it-passes None e h = absurd (cc)
  made-where-it-passes (Some ps) e h =
      let parts = and_parts (stand_once [] ps) (has_required (options_rules C.options) ps) h in
      ap (λ rows. lawful_command name names (λ id. first_of id rows))
      (leaf-rows name names (options_rules C.options) (options-are-taken C.options C.apart) rest ps e parts.0)
      ∙ ap (lawful_command name names) (λ i id. first-value id ps i)
      ∙ ap (λ (b : Bool). option_and_then (λ entries. lawful_command name names (value_named entries)) (if b
      then Some ps else None)) (sym parts.0)

  none-where-it-fails : (r : Option (List Entry)) → words_pass (options_rules C.options) [] settled_now r ≡ false →
      made_of r ≡ None
  none-where-it-fails None e = refl
  none-where-it-fails (Some ps) e = by_once (stand_once [] ps) e where
    no_command : Option Command
    no_command = None

    either : (b : Bool) → (if b then no_command else None) ≡ None
    either true = refl
    either false = refl

    by_once : (b : Bool) → (b && has_required (options_rules C.options) ps) ≡ false
        → option_and_then (λ entries. lawful_command name names (value_named entries)) (if b then Some ps else None)
        ≡ None
    by_once true e = ap (λ c. if have_values names (value_named ps) then c else None) (C.wants ps e)
        ∙ either (have_values names (value_named ps))
    by_once false e = refl

-- what is found is the command of the words
pub found-is-command : (words : List Bytes) → AllHaveFirstFlag words → fault_of fixd_app words ≡ [] →
    command_found (subcommand_of fixd_app words) ≡ command_of words
found-is-command [] flagged e = absurd (clash (sym (nil-is-none _ e) ∙ no-words)) where
  clash : true ≡ false → ⊥
  clash h = cc
found-is-command (word ∷ rest) flagged e = by_command (which-command word) where
  by_command : IsCommand word ⊎ IsNone word →
      command_found (subcommand_of fixd_app (word ∷ rest)) ≡ command_of (word ∷ rest)
  by_command (inl C) =
      command-of-rows word C rest
      ∙ made-where-it-passes word C rest (entries_in (names word C rest) rest None) refl
      (sym (passes-where-taken word C rest flagged.1) ∙ nil-is-none _ e)
      ∙ sym (command-of-entries word C rest)
  by_command (inr n) = absurd (clash (sym (nil-is-none _ e) ∙ after-another word n.met flagged.0 rest)) where
    clash : true ≡ false → ⊥
    clash h = cc

-- words that are refused are none
pub refused-is-none : (words : List Bytes) → AllHaveFirstFlag words → fault_of fixd_app words ≢ [] →
    command_of words ≡ None
refused-is-none [] flagged n = refl
refused-is-none (word ∷ rest) flagged n = by_command (which-command word) where
  by_command : IsCommand word ⊎ IsNone word → command_of (word ∷ rest) ≡ None
  by_command (inl C) =
      command-of-entries word C rest
      ∙ none-where-it-fails word C rest (entries_in (names word C rest) rest None)
      (sym (passes-where-taken word C rest flagged.1) ∙ some-is-not-nil _ n)
  by_command (inr n) =
      ap (λ o. option_and_then
      (λ options. option_and_then (λ entries. lawful_command word options (value_named entries))
      (once (entries_in options rest None))) o) n.unknown

pub usage-by : (fault : WordFault) (P Q : Type 0) → (P → Q) → IfUsage fault P → IfUsage fault Q
usage-by Usage P Q f h = f h
usage-by Memory P Q f h = h
