-- What the words of `fixd-c` ask for.
use Rattle.std.specs.Prelude.{◌&&◌, Bool, List, [], ◌∷◌, Option, Some, None, codes, if◌then◌else◌}
use Rattle.std.specs.Str.{bytes_eq}
use Rattle.fx_arguments.specs.Grammar.{Bytes, is_dashed, ends_options}
use Rattle.fx_c_command.specs.declared.words.Text.{Text}
use Rattle.fx_c_command.specs.declared.words.Text.TheVariants.{Source, Header}

-- a text of the bundle in FILE
pub record TextRequest : Type 0 where
  pub text : Text
  pub file : Bytes

abbrev pub request : Text → Bytes → TextRequest
request text file = record { text = text; file = file }

abbrev pub is_header_flag : Bytes → Bool
is_header_flag word = bytes_eq word (codes "--header")

-- of a FILE that doesn't begin with a minus, or is the minus alone
abbrev pub plain_request : Text → Bytes → Option TextRequest
plain_request text file = if is_dashed file then None else Some (request text file)

-- `-- FILE`, with any FILE, `--header FILE` or `FILE --header`
abbrev pub request_of_two : Bytes → Bytes → Option TextRequest
request_of_two first second =
    if ends_options first then Some (request Source second)
    else if is_header_flag first then plain_request Header second
    else if is_header_flag second then plain_request Header first
    else None

-- `--header -- FILE`, with any FILE
abbrev pub request_of_three : Bytes → Bytes → Bytes → Option TextRequest
request_of_three first second third =
    if is_header_flag first && ends_options second then Some (request Header third) else None

-- what the words ask for, where they are `FILE`, two such words or three
abbrev pub request_of : List Bytes → Option TextRequest
request_of (file ∷ []) = plain_request Source file
request_of (first ∷ second ∷ []) = request_of_two first second
request_of (first ∷ second ∷ third ∷ []) = request_of_three first second third
request_of words = None
