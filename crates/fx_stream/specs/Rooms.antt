-- The room of a page.
use Rattle.std.specs.Prelude.{ℕ, ◌+◌, ◌≤◌, List, length}

-- in bytes: 64 fields of 128 bytes, and a byte behind each
abbrev pub line_room : ℕ
line_room = 8256

-- sixteen such lines
abbrev pub lines_room : ℕ
lines_room = 132096

abbrev pub page_room : ℕ
page_room = 196608

-- one line fits behind these bytes
abbrev pub HasLineRoom : List ℕ → Type 0
HasLineRoom page = length page + line_room ≤ page_room

-- what taking a line may print fits behind these bytes: that line, and fifteen that were held back
abbrev pub HasRoom : List ℕ → Type 0
HasRoom page = length page + lines_room ≤ page_room
