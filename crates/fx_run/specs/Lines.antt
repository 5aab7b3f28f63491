-- The lines of a page, as they are put.
use Rattle.std.specs.Prelude.{ℕ, Bool, if◌then◌else◌}

-- the byte behind a field of a line: a comma, or a line feed behind the last
abbrev pub mark : Bool → ℕ
mark is_last = if is_last then 10 else 44
