-- What `widths FILE` prints: the least width of each code of an accepted bundle, and how many bytes all take.
use Rattle.std.specs.Prelude.{ℕ, List, [], ◌∷◌, ◌++◌, codes, length, map}
use Rattle.std.specs.Fmt.{decimal}
use Rattle.fx_model.specs.LineText.{line_text, numbered_lines}
use Rattle.fx_model.specs.Machine.{Program}
use Rattle.fx_model.specs.Tree.{at}
use Rattle.fx_inequalities.specs.Certificate.{Certificate}
use Rattle.fx_mixed.specs.Packed.{size_of}
use Rattle.fx_widths.specs.LeastWidths.{least_width, least_widths}
use Rattle.fx_model.specs.ProgramText.{instruction_name}

-- the line N OP WIDTH of code n
abbrev pub width_line : Program → Certificate → ℕ → List ℕ
width_line p c n = line_text (decimal n ∷ at [] (map instruction_name p.codes) n ∷ decimal (least_width p c n) ∷ [])

-- the line `bytes TOTAL`
abbrev pub bytes_line : Program → Certificate → List ℕ
bytes_line p c = line_text (codes "bytes" ∷ decimal (size_of (least_widths p c)) ∷ [])

-- what is printed of an accepted bundle
abbrev pub widths_text : Program → Certificate → List ℕ
widths_text p c = numbered_lines (width_line p c) 0 (length p.codes) ++ bytes_line p c
