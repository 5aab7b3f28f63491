-- The way to round of an option.
use Rattle.std.specs.Prelude.{Option, Some, None, if◌then◌else◌, codes}
use Rattle.std.specs.Str.{bytes_eq}
use Rattle.fx_program.specs.declared.code.Round.{Round}
use Rattle.fx_program.specs.declared.code.Round.TheVariants.{Floor, Nearest}
use Rattle.fx_arguments.specs.Grammar.{Bytes}

-- the way to round of this name
abbrev pub round_named : Bytes → Option Round
round_named text = if bytes_eq text (codes "floor") then Some Floor else if bytes_eq text (codes "nearest")
    then Some Nearest else None

-- down, where none is given
abbrev pub round_given : Option Bytes → Option Round
round_given None = Some Floor
round_given (Some text) = round_named text
