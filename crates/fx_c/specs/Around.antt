-- What is written before an expression that is shifted to the right and rounded, and behind it; and the names that a
-- code's statement takes.
use Rattle.std.specs.Prelude.{ℕ, zero, suc, nat_eq, Bool, false, ◌||◌, List, [], ◌++◌, codes}
use Rattle.std.specs.Fmt.{decimal}
use Rattle.fx_model.specs.Machine.{Round, Floor, Nearest, Code, Const, Neg, Add, Sub, Mul, Div, Copy}
use Rattle.fx_model.specs.Machine as machine
use Rattle.fx_c99.specs.CText.{floor_name, power_text}

-- one parenthesis more for the sum with a half
abbrev pub opening : ℕ → Round → ℕ → List ℕ
opening bits r zero = []
opening bits Floor (suc s) = floor_name bits ++ codes "("
opening bits Nearest (suc s) = floor_name bits ++ codes "(("

-- that sum's end, and how far it is shifted
abbrev pub closing : ℕ → Round → ℕ → List ℕ
closing bits r zero = []
closing bits Floor (suc s) = codes ", " ++ (decimal (suc s) ++ codes "U)")
closing bits Nearest (suc s) =
    codes " + " ++ (power_text bits s ++ (codes ")" ++ (codes ", " ++ (decimal (suc s) ++ codes "U)"))))

-- code m is an operand
abbrev pub code_takes : ℕ → Code → Bool
code_takes m (machine.Input k f) = false
code_takes m (machine.State k f w) = false
code_takes m (Const w f) = false
code_takes m (Neg a) = nat_eq a m
code_takes m (Add a b sa sb) = nat_eq a m || nat_eq b m
code_takes m (Sub a b sa sb) = nat_eq a m || nat_eq b m
code_takes m (Mul r a b s) = nat_eq a m || nat_eq b m
code_takes m (Div a b s) = nat_eq a m || nat_eq b m
code_takes m (Copy r a s) = nat_eq a m
