-- The words behind a command's name: options with their values, and FILE.
use Rattle.std.specs.Prelude.{ℕ, ◌==◌, ◌&&◌, Bool, true, false, not, List, [], ◌∷◌, ◌++◌, map, find, Option, Some, None, option_map, if◌then◌else◌, codes}
use Rattle.std.specs.List.{list_any, list_all, before_first, after_first}
use Rattle.std.specs.Option.{option_map_or}
use Rattle.std.specs.Str.{bytes_eq}

-- a word, or a part of one
abbrev pub Bytes : Type 0
Bytes = List ℕ

-- the name of an option and its value; FILE stands under the name `file`
abbrev pub Entry : Type 0
Entry = Bytes × Bytes

abbrev pub file_entry : Bytes → Entry
file_entry word = (codes "file", word)

-- the word begins with a minus, and isn't the minus alone
abbrev pub is_dashed : Bytes → Bool
is_dashed (first ∷ second ∷ others) = first == 45
is_dashed word = false

-- `--` ends the options
abbrev pub ends_options : Bytes → Bool
ends_options word = bytes_eq word (codes "--")

abbrev pub is_equals : ℕ → Bool
is_equals c = c == 61

-- the name, and the value behind the first `=` where there is one
abbrev pub name_and_value : Bytes → Bytes × Option Bytes
name_and_value text =
    (before_first is_equals text, if list_any is_equals text then Some (after_first is_equals text) else None)

-- the same of a word `--name` or `--name=value`
abbrev pub option_parts : Bytes → Option (Bytes × Option Bytes)
option_parts (a ∷ b ∷ c ∷ rest) = if (a == 45) && (b == 45) then Some (name_and_value (c ∷ rest)) else None
option_parts word = None

abbrev pub is_among : Bytes → List Bytes → Bool
is_among name names = list_any (λ n. bytes_eq n name) names

abbrev pub has_entry : Bytes → List Entry → Bool
has_entry name entries = list_any (λ p. bytes_eq p.0 name) entries

abbrev pub with_entry : Entry → Option (List Entry) → Option (List Entry)
with_entry p entries = option_map (λ ps. p ∷ ps) entries

-- the value stands behind `=`, or is the next word
abbrev pub option_value : Bytes → Option Bytes → (Option Bytes → Option (List Entry)) → Option (List Entry)
option_value name (Some v) next = with_entry (name, v) (next None)
option_value name None next = next (Some name)

abbrev pub after_option : List Bytes → Option (Bytes × Option Bytes) → (Option Bytes → Option (List Entry)) →
    Option (List Entry)
after_option names None next = None
after_option names (Some p) next = if is_among p.0 names then option_value p.0 p.1 next else None

-- the entries from this word on, where an option may wait for its value, and `next` has those of the later words
abbrev pub after_word : List Bytes → Bytes → List Bytes → (Option Bytes → Option (List Entry)) → Option Bytes →
    Option (List Entry)
after_word names word rest next (Some name) = if is_dashed word then None else with_entry (name, word) (next None)
after_word names word rest next None =
    if ends_options word then Some (map file_entry rest)
    else if is_dashed word then after_option names (option_parts word) next
    else with_entry (file_entry word) (next None)

-- options of these names and files in the order of the words, where they are nothing else
unfoldable pub entries_in : List Bytes → List Bytes → Option Bytes → Option (List Entry)
entries_in names [] None = Some []
entries_in names [] (Some name) = None
entries_in names (word ∷ rest) waiting = after_word names word rest (entries_in names rest) waiting

-- no name stands twice, nor among those before
unfoldable pub stand_once : List Entry → List Entry → Bool
stand_once before [] = true
stand_once before (p ∷ ps) = not (has_entry p.0 before) && stand_once (before ++ p ∷ []) ps

-- the entries, where no name stands twice
abbrev pub once : Option (List Entry) → Option (List Entry)
once None = None
once (Some ps) = if stand_once [] ps then Some ps else None

-- the value that stands under a name
abbrev pub value_named : List Entry → Bytes → Option Bytes
value_named entries name = option_map (λ p. p.1) (find (λ p. bytes_eq p.0 name) entries)

-- the value of an option isn't empty, and doesn't begin with a minus
abbrev pub is_value : Bytes → Bool
is_value [] = false
is_value (first ∷ others) = not (first == 45)

-- each of these options has such a value where it is given
abbrev pub have_values : List Bytes → (Bytes → Option Bytes) → Bool
have_values names given = list_all (λ name. option_map_or is_value (given name) true) names
