-- What `show FILE` prints: the codes of an accepted bundle with what its certificate says of them, and its bounds.
use Rattle.std.specs.Prelude.{ℕ, ℤ, pos, List, [], ◌∷◌, ◌++◌, length, map}
use Rattle.std.specs.Fmt.{decimal, signed_decimal}
use Rattle.std.specs.List.{concat}
use Rattle.fx_rational.specs.Dyadic.{Dyadic}
use Rattle.fx_model.specs.LineText.{line_text, numbered_lines}
use Rattle.fx_model.specs.Machine.{Program, points_of}
use Rattle.fx_model.specs.ProgramText.{instruction_name}
use Rattle.fx_model.specs.Tree.{at}
use Rattle.fx_inequalities.specs.Certificate.{Certificate, NodeLine, no_line}
use Rattle.fx_bundle_commands.specs.commands.Check.{bound_pieces, bound_lines}

-- m, or m/2^e
abbrev pub value_text : Dyadic → List ℕ
value_text d = concat (bound_pieces d)

-- a code's number, instruction and point, and the ends of its range and of its error
abbrev pub shown_fields : ℕ → List ℕ → ℤ → NodeLine → List (List ℕ)
shown_fields n name f line =
    decimal n ∷ name ∷ signed_decimal f ∷ value_text line.range.lo ∷ value_text line.range.hi ∷ value_text line.error.lo
    ∷ value_text line.error.hi ∷ []

-- the line of code n
abbrev pub shown_line : Program → Certificate → ℕ → List ℕ
shown_line p c n =
    line_text (shown_fields n (at [] (map instruction_name p.codes) n) (at (pos 0) (points_of p.codes) n)
    (at no_line c.lines n))

-- what is printed of an accepted bundle
abbrev pub table : Program → Certificate → List ℕ
table p c = numbered_lines (shown_line p c) 0 (length p.codes) ++ bound_lines p c 0 p.outputs
