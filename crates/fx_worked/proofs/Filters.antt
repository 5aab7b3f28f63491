-- Which filters are calm, by evaluation.
use Rattle.std.specs.Prelude.{◌≡◌, ℕ, zero, suc, true, false, List, [], ◌∷◌, pos, negsuc, refl, codes}
use Rattle.fx_rational.specs.Rational.{Rational, whole, over, plus, times, is_at_most}
use Rattle.fx_rational.specs.Dyadic.{dyadic_value}
use Rattle.fx_model.specs.Tree as tree
use Rattle.fx_model.specs.Tree.{Tree}
use Rattle.fx_model.specs.Function.{Function, Temp, free}
use Rattle.fx_plan_laws.specs.Powers.{power_value}
use Rattle.fx_plan_laws.specs.Calm.{first_from, numbers_of, is_calm, is_short, is_contracting}

-- of an input from -1 to 1 with this error, a state with this start, and this next value; the output is the state
abbrev filter : Rational → Rational → List Temp → Tree → Function
filter err start temps next = record {
  name = codes "c";
  inputs = record { name = codes "u"; lo = whole (negsuc 0); hi = whole (pos 1); err = err } ∷ [];
  states = record { name = codes "x"; start = start } ∷ [];
  temps = temps;
  results = tree.State 0 ∷ next ∷ [];
  demands = free ∷ [];
}

abbrev times_state : Rational → Tree
times_state c = tree.Product (tree.Literal c) (tree.State 0)

-- from zero, without an error
abbrev plain : Tree → Function
plain next = filter (whole (pos 0)) (whole (pos 0)) [] next

-- ---- sizes
-- 0.1 and 0.4 come to just a half, though neither has a last binary digit
tenths : is_calm 32 (plain
    (tree.Sum (tree.Sum (times_state (over (pos 1) 10)) (times_state (over (pos 4) 10))) (tree.Input 0))) ≡ true
unfolding first_from power_value dyadic_value over plus times is_at_most
tenths = refl

-- and so much more isn't a half
more_than_half : is_calm 64
    (plain (tree.Sum (times_state (over (pos 1) 10)) (times_state (over (pos 400000000000000001) 1000000000000000000))))
    ≡ false
unfolding first_from power_value dyadic_value over plus times is_at_most
more_than_half = refl

-- the terms of one state add up
added_terms : is_calm 32 (plain (tree.Sum (times_state (over (pos 1) 2)) (times_state (over (pos 1) 4)))) ≡ false
unfolding first_from power_value dyadic_value over plus times is_at_most
added_terms = refl

-- 0.6 of a state, and half of the input
abbrev steep : Tree
steep = tree.Sum (times_state (over (pos 6) 10)) (tree.Product (tree.Literal (over (pos 1) 2)) (tree.Input 0))

-- a step doesn't halve the state, and no width changes that
steep_steps : is_contracting steep ≡ false
unfolding power_value dyadic_value over plus times is_at_most
steep_steps = refl

-- so it is calm at no width
steep_is_never_calm : (n : ℕ) → is_calm n (plain steep) ≡ false
unfolding power_value dyadic_value over plus times is_at_most
steep_is_never_calm n = refl

-- ---- forms
-- a product in the other order, a negation of a sum, a literal that stands alone
other_forms : is_calm 32
    (plain (tree.Negation (tree.Difference (tree.Product (tree.State 0) (tree.Literal (over (pos 1) 2)))
    (tree.Sum (tree.Input 0) (tree.Literal (over (pos 3) 2)))))) ≡ true
unfolding first_from power_value dyadic_value over plus times is_at_most
other_forms = refl

-- a product of two inputs is none
no_product : is_calm 64 (plain (tree.Product (tree.Input 0) (tree.Input 0))) ≡ false
unfolding first_from power_value dyadic_value over plus times is_at_most
no_product = refl

-- nor is anything with a temp
no_temp : is_calm 64 (filter (whole (pos 0)) (whole (pos 0)) (record { name = codes "t"; tree = tree.Input 0 } ∷ [])
    (times_state (over (pos 1) 2))) ≡ false
unfolding first_from power_value dyadic_value over plus times is_at_most
no_temp = refl

-- one term more than n
abbrev terms : ℕ → Tree
terms zero = tree.Input 0
terms (suc n) = tree.Sum (terms n) (tree.Input 0)

few_terms : is_short (terms 63) ≡ true
few_terms = refl

many_terms : is_short (terms 64) ≡ false
many_terms = refl

-- ---- numbers
-- a start of just 2^2, and one above it
power_start : (numbers_of 32 (filter (whole (pos 0)) (whole (negsuc 3)) [] (times_state (over (pos 1) 2)))).q ≡ 2
unfolding first_from power_value dyadic_value over plus times is_at_most
power_start = refl

above_power : (numbers_of 32
    (filter (whole (pos 0)) (over (pos 4000000000000000001) 1000000000000000000) [] (times_state (over (pos 1) 2)))).q
    ≡ 3
unfolding first_from power_value dyadic_value over plus times is_at_most
above_power = refl

-- an input's error that leaves no more than room for it, and twice that
least_room : is_calm 32
    (filter (over (pos 1) 8192) (whole (pos 0)) [] (tree.Sum (times_state (over (pos 1) 2)) (tree.Input 0))) ≡ true
unfolding first_from power_value dyadic_value over plus times is_at_most
least_room = refl

no_room : is_calm 32 (filter (over (pos 1) 4096) (whole (pos 0)) []
    (tree.Sum (times_state (over (pos 1) 2)) (tree.Input 0))) ≡ false
unfolding first_from power_value dyadic_value over plus times is_at_most
no_room = refl
