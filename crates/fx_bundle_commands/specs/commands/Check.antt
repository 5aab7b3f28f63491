-- What `check FILE` prints: the bounds of an accepted bundle.
use Rattle.std.specs.Prelude.{ℕ, ◌+◌, ◌==◌, List, [], ◌∷◌, ◌++◌, codes, if◌then◌else◌}
use Rattle.std.specs.Fmt.{decimal, signed_decimal}
use Rattle.std.specs.List.{concat}
use Rattle.fx_rational.specs.Dyadic.{Dyadic}
use Rattle.fx_model.specs.Machine.{Program}
use Rattle.fx_inequalities.specs.Certificate.{Certificate}
use Rattle.fx_inequalities.specs.Accepted.{bound_dyadic}
use Rattle.fx_model.specs.LineText.{numbered_lines}

-- m, or m/2^e, piece by piece; what a certificate writes is in lowest terms
abbrev pub bound_pieces : Dyadic → List (List ℕ)
bound_pieces d = if d.e == 0 then signed_decimal d.m ∷ [] else signed_decimal d.m ∷ codes "/2^" ∷ decimal d.e ∷ []

-- the line outJ BOUND of output j, counted from 0
abbrev pub bound_line : ℕ → Dyadic → List ℕ
bound_line j d = concat (codes "out" ∷ decimal (j + 1) ∷ codes " " ∷ bound_pieces d ++ (codes "\n" ∷ []))

-- a line for each of m outputs, of which the first is output j
abbrev pub bound_lines : Program → Certificate → ℕ → ℕ → List ℕ
bound_lines p c = numbered_lines (λ j. bound_line j (bound_dyadic p c j))

-- what is printed of an accepted bundle
abbrev pub report : Program → Certificate → List ℕ
report p c = codes "accepted\n" ++ bound_lines p c 0 p.outputs
