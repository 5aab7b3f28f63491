-- What is written before an expression that is shifted to the right and rounded, and behind it.
use Rattle.std.specs.Prelude.{ℕ, suc, List, ◌++◌, codes}
use Rattle.std.specs.Fmt.{decimal}
use Rattle.fx_model.specs.Machine.{Round, Nearest}

-- one parenthesis more for the sum with a half
abbrev pub opening : Round → ℕ → List ℕ
opening Nearest (suc s) = codes "(("
opening r s = codes "("

-- that sum's end, and the shift
abbrev pub closing : Round → ℕ → List ℕ
closing Nearest (suc s) =
    codes " + (1i128 << " ++ (decimal s ++ (codes "))" ++ (codes " >> " ++ (decimal (suc s) ++ codes ")"))))
closing r s = codes " >> " ++ (decimal s ++ codes ")")
