-- The source of a demonstration, as text: temps of two inputs, and the sum of the first and the last.
use Rattle.std.specs.Prelude.{ℕ, ◌+◌, ◌*◌, ◌/◌, ◌%◌, List, [], ◌∷◌, ◌++◌, codes}
use Rattle.std.specs.Fmt.{decimal}
use Rattle.fx_model.specs.LineText.{numbered_lines}

-- the two digits of a number below 100
abbrev pub two_digits : ℕ → List ℕ
two_digits n = (48 + n / 10) ∷ (48 + n % 10) ∷ []

-- temp i is a multiple of x, and y
abbrev pub temp_line : ℕ → List ℕ
temp_line i = codes "  val t" ++ decimal i ++ codes " = 0." ++ two_digits (37 * i % 100) ++ codes " * x + y\n"

-- what stands before the temps
abbrev pub head_text : List ℕ
head_text =
    codes "def demo(x: Real, y: Real): Real = {\n" ++ codes "  require(-1 <= x && x <= 1 && -1 <= y && y <= 1)\n"

-- the result
abbrev pub result_text : ℕ → List ℕ
result_text n = codes "  t1 + t" ++ decimal n ++ codes "\n}\n"

-- the whole
abbrev pub demo_source : ℕ → List ℕ
demo_source n = head_text ++ numbered_lines temp_line 1 n ++ result_text n
