-- The numbers of options.
use Rattle.std.specs.Prelude.{ℕ, ◌==◌, ◌&&◌, Bool, List, length, Option, Some, None, option_and_then, if◌then◌else◌, nat_le}
use Rattle.std.specs.List.{list_all, list_any}
use Rattle.std.specs.Char.{is_ascii_digit}
use Rattle.std.specs.Str.Parse.{digits_value}
use Rattle.fx_model.specs.LawfulProgram.{widths}

-- 1 to 20 decimal digits; a sign is none
abbrev pub is_numeral : List ℕ → Bool
is_numeral text = nat_le 1 (length text) && (nat_le (length text) 20 && list_all is_ascii_digit text)

-- the number of a numeral, up to a limit
abbrev pub number_up_to : ℕ → List ℕ → Option ℕ
number_up_to limit text =
    if is_numeral text && nat_le (digits_value 10 text) limit then Some (digits_value 10 text) else None

-- the same of an option, and another number where it isn't given
abbrev pub number_or : ℕ → ℕ → Option (List ℕ) → Option ℕ
number_or other limit None = Some other
number_or other limit (Some text) = number_up_to limit text

-- a number that isn't 0
abbrev pub one_or_more : ℕ → Option ℕ
one_or_more n = if nat_le 1 n then Some n else None

-- the number of a demonstration
abbrev pub demo_number : List ℕ → Option ℕ
demo_number text = option_and_then one_or_more (number_up_to 500 text)

-- the number of units of an option, which has to be given
abbrev pub units_given : Option (List ℕ) → Option ℕ
units_given text = option_and_then one_or_more (option_and_then (number_up_to 1024) text)

-- the number, if words have that width
abbrev pub one_of_widths : ℕ → Option ℕ
one_of_widths n = if list_any (λ w. n == w) widths then Some n else None

-- the width of an option, which has to be given
abbrev pub width_given : Option (List ℕ) → Option ℕ
width_given text = option_and_then one_of_widths (option_and_then (number_up_to 64) text)
