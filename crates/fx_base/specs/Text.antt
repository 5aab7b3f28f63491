-- The text of an input, and its lines.
use Rattle.std.specs.Str.Lines.{lines}
use Rattle.std.specs.Prelude.{ℕ, List, ◌∷◌, Bool, ◌==◌, ◌&&◌, if◌then◌else◌}

-- without the three bytes EF BB BF at its front
abbrev pub skip_mark : List ℕ → List ℕ
skip_mark (a ∷ b ∷ c ∷ rest) = if (a == 239) && ((b == 187) && (c == 191)) then rest else a ∷ b ∷ c ∷ rest
skip_mark bytes = bytes

-- at the start of the input such bytes are no text
abbrev pub text_at : Bool → List ℕ → List ℕ
text_at is_first bytes = if is_first then skip_mark bytes else bytes

-- the lines of an input, each without its line feed and one carriage return before that; what stands behind the last
-- line feed is a line where it isn't empty
abbrev pub lines_in : List ℕ → List (List ℕ)
lines_in bytes = lines (skip_mark bytes)
