-- Where a comment that nests ends. A byte belongs to one mark alone: /*/ opens and doesn't close.
use Rattle.std.specs.Prelude.{◌==◌, ℕ, ◌+◌, ◌-◌, Bool, true, false, ◌&&◌, List, [], ◌∷◌, Option, Some, None, nat_le, if◌then◌else◌}

-- how many comments are open behind one more byte, and this byte, or 0 where a mark took it
abbrev pub open_behind : ℕ → ℕ → ℕ → ℕ × ℕ
open_behind depth last c =
    if (last == 47) && (c == 42) then (depth + 1, 0) else (
    if (last == 42) && (c == 47) then (depth - 1, 0) else (depth, c))

-- whether this byte closes the outermost comment
abbrev pub is_outermost_end : ℕ → ℕ → ℕ → Bool
is_outermost_end depth last c = (last == 42) && (c == 47) && nat_le depth 1

-- The place behind the outermost comment, if it is closed. Read are n bytes, so many comments are open, and last is the
-- byte before, or 0 where a mark took it.
unfoldable pub comment_end : ℕ → ℕ → ℕ → List ℕ → Option ℕ
comment_end n depth last [] = None
comment_end n depth last (c ∷ cs) = elim (is_outermost_end depth last c) [
  | true ↦ Some (n + 1)
  | false ↦ comment_end (n + 1) (open_behind depth last c).0 (open_behind depth last c).1 cs
]
