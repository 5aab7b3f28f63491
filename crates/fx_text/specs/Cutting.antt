-- A text is lines, each ended by a line feed. The fields of a line are what stands between its single spaces.
use Rattle.std.specs.Prelude.{◌≡◌, ◌==◌, ℕ, List, [], length, Option, Some, None, nat_lt, if◌then◌else◌}
use Rattle.std.specs.Borrow.{Bor}
use Rattle.std.specs.List.{before_first, after_first, position_or_len, slice_split}

-- what stands before the first such byte and what stands behind it, or none where there is no such byte
abbrev pub cut_at : ℕ → List ℕ → Option (List ℕ × List ℕ)
cut_at byte text = if nat_lt (position_or_len (λ b. b == byte) text) (length text)
    then Some (before_first (λ b. b == byte) text, after_first (λ b. b == byte) text) else None

-- the first line, and the text behind its line feed
abbrev pub line_at : List ℕ → Option (List ℕ × List ℕ)
line_at text = cut_at 10 text

-- the fields of a line, or those of them that are still to be read
abbrev pub Line : Type 0
Line = List (List ℕ)

-- two spaces have an empty field between them
abbrev pub fields_of : List ℕ → Line
fields_of line = slice_split (λ b. b == 32) line

-- the fields of what is left of a line: none where nothing is left, one where an empty part is left
abbrev pub left_of : Option (Bor (List ℕ)) → Line
left_of None = []
left_of (Some rest) = fields_of rest.now

-- two slices are these two lists
abbrev pub AreParts : Option (Bor (List ℕ) × Bor (List ℕ)) → Option (List ℕ × List ℕ) → Type 0
AreParts None parts = parts ≡ None
AreParts (Some x) parts = parts ≡ Some (x.0.now, x.1.now)
