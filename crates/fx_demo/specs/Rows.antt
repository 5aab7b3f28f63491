-- The thousand rows of a demonstration, as the text of an input: hundredths from -1 to 1.
use Rattle.std.specs.Prelude.{ℕ, ◌*◌, ◌%◌, ℤ, pos, ◌-ℤ◌, List, ◌++◌, codes}
use Rattle.std.specs.Fmt.{signed_decimal}
use Rattle.fx_model.specs.LineText.{numbered_lines}

-- how many hundredths stand in a row for this number
abbrev pub hundredths : ℕ → ℤ
hundredths k = pos (k % 201) -ℤ pos 100

-- so many hundredths
abbrev pub hundredths_text : ℕ → List ℕ
hundredths_text k = signed_decimal (hundredths k) ++ codes "e-2"

-- row r
abbrev pub row_line : ℕ → List ℕ
row_line r = hundredths_text (7 * r) ++ codes "," ++ hundredths_text (11 * r) ++ codes "\n"

-- the header, and the rows from 1 on
abbrev pub demo_rows : List ℕ
demo_rows = codes "x,y\n" ++ numbered_lines row_line 1 1000
