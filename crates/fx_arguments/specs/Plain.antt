-- A command without options: its name, and the words behind it that name files.
use Rattle.std.specs.Prelude.{List, [], ◌∷◌, Option, Some, None, option_map, if◌then◌else◌}
use Rattle.fx_arguments.specs.Grammar.{Bytes, ends_options, is_dashed}

-- the words that name files: none is dashed before `--`, and any word is one behind it
abbrev pub files_among : List Bytes → Option (List Bytes)
files_among [] = Some []
files_among (word ∷ words) =
    if ends_options word then Some words
    else if is_dashed word then None
    else option_map (λ files. word ∷ files) (files_among words)

-- the one file among them
abbrev pub one_file : Option (List Bytes) → Option Bytes
one_file (Some (file ∷ [])) = Some file
one_file files = None
