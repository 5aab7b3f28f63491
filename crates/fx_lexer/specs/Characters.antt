-- The classes of characters that tokens are made of.
use Rattle.std.specs.Prelude.{◌==◌, ℕ, Bool, ◌||◌, List}
use Rattle.std.specs.List.{list_any}

-- the end of a line: a carriage return is none
abbrev pub is_line_feed : ℕ → Bool
is_line_feed c = c == 10

-- whether a line ends in the text
abbrev pub has_line_feed : List ℕ → Bool
has_line_feed text = list_any is_line_feed text

-- a space, tab, line feed or carriage return
abbrev pub is_blank : ℕ → Bool
is_blank c = (c == 32) || (c == 9) || (c == 10) || (c == 13)
