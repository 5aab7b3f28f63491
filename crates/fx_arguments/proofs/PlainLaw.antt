-- Without options the entries are files.
use Rattle.std.proofs.Common.{◌≡◌, ◌∙◌, Bool, true, false, List, [], ◌∷◌, map, Option, Some, None, option_map, codes, refl, ap}
use Rattle.std.specs.Prelude.{IfSome, if◌then◌else◌, option_and_then}
use Rattle.fx_arguments.specs.Command.{Command, OnFile, command_of, lawful_command, on_file}
use Rattle.fx_arguments.specs.declared.command.FileCommand.{FileCommand}
use Rattle.fx_arguments.specs.Grammar.{Bytes, Entry, after_option, ends_options, entries_in, file_entry, is_dashed, once, option_parts, stand_once, value_named, with_entry}
use Rattle.fx_arguments.specs.Plain.{files_among, one_file}
use Rattle.fx_arguments.proofs.OnFile.{made-of-file, takes-no-options}

no-option : (p : Option (Bytes × Option Bytes)) (next : Option Bytes → Option (List Entry)) →
    after_option [] p next ≡ None
no-option None next = refl
no-option (Some p) next = refl

first-file : (word : Bytes) (r : Option (List Bytes)) →
    with_entry (file_entry word) (option_map (λ files. map file_entry files) r)
    ≡ option_map (λ files. map file_entry files) (option_map (λ files. word ∷ files) r)
first-file word None = refl
first-file word (Some files) = refl

entries-are-files : (words : List Bytes) →
    entries_in [] words None ≡ option_map (λ files. map file_entry files) (files_among words)
unfolding entries_in
entries-are-files [] = refl
entries-are-files (word ∷ rest) = by_word (ends_options word) (is_dashed word) (entries-are-files rest) where
  by_word : (t d : Bool) → entries_in [] rest None ≡ option_map (λ files. map file_entry files) (files_among rest)
      → (if t then Some (map file_entry rest) else if d then after_option [] (option_parts word) (entries_in [] rest)
      else with_entry (file_entry word) (entries_in [] rest None))
      ≡ option_map (λ files. map file_entry files) (if t then Some rest else if d then None
      else option_map (λ files. word ∷ files) (files_among rest))
  by_word true d e = refl
  by_word false true e = no-option (option_parts word) (entries_in [] rest)
  by_word false false e = ap (with_entry (file_entry word)) e ∙ first-file word (files_among rest)

-- a command of FILE alone: what stands under `file` is the one file, where there is one
file-given : (made : Bytes → Command) (r : Option (List Bytes))
    → option_and_then (λ entries. option_map made (value_named entries (codes "file")))
    (once (option_map (λ files. map file_entry files) r)) ≡ option_map made (one_file r)
unfolding stand_once
file-given made None = refl
file-given made (Some []) = refl
file-given made (Some (a ∷ [])) = refl
file-given made (Some (a ∷ b ∷ files)) = refl

-- so of the words behind its name
taken : (made : Bytes → Command) (words : List Bytes)
    → option_and_then (λ entries. option_map made (value_named entries (codes "file")))
    (once (entries_in [] words None)) ≡ option_map made (one_file (files_among words))
taken made words =
    ap (λ r. option_and_then (λ entries. option_map made (value_named entries (codes "file"))) (once r))
    (entries-are-files words) ∙ file-given made (files_among words)

-- a command of this name
takes-one-file : (name : Bytes) (command : FileCommand) → on_file name ≡ Some command → (words : List Bytes)
    → command_of (name ∷ words) ≡ option_map (OnFile command) (one_file (files_among words))
takes-one-file name command is words =
    ap (λ o. option_and_then
    (λ options. option_and_then (λ entries. lawful_command name options (value_named entries))
    (once (entries_in options words None))) o) (takes-no-options name command is)
    ∙ ap (λ (f : List Entry → Option Command). option_and_then f (once (entries_in [] words None)))
    (λ i entries. made-of-file name command is (value_named entries) i)
    ∙ taken (OnFile command) words

-- so of each name that is one's
pub each-takes-one-file : (name : Bytes) (words : List Bytes)
    → IfSome (on_file name)
    (λ command. command_of (name ∷ words) ≡ option_map (OnFile command) (one_file (files_among words)))
each-takes-one-file name words = by_name (on_file name) refl where
  by_name : (o : Option FileCommand) → on_file name ≡ o →
      IfSome o (λ command. command_of (name ∷ words) ≡ option_map (OnFile command) (one_file (files_among words)))
  by_name None is = tt
  by_name (Some command) is = takes-one-file name command is words
