-- Worked rewritings, by evaluation: each rule on a tree that it turns, and on one that it doesn't.
use Rattle.std.specs.Prelude.{◌≡◌, ℕ, zero, suc, ◌^◌, pos, negsuc, List, [], ◌∷◌, Some, None, refl, codes}
use Rattle.fx_rational.specs.Gcd.{gcd}
use Rattle.fx_rational.specs.Rational.{over, whole, plus, minus, times, negative, divided, quotient, lowest}
use Rattle.fx_model.specs.Tree.{Tree, Literal, Input, Negation, Sum, Difference, Product, Quotient}
use Rattle.fx_model.specs.Function as function
use Rattle.fx_model.specs.Function.{Function, free}
use Rattle.fx_model.specs.Paths.{found}
use Rattle.fx_inequalities.specs.Rewriting.{Rewriting}
use Rattle.fx_rules.specs.Turned.{NoMatch, TooLong, Becomes, turned}
use Rattle.fx_rules.specs.Steps.{rewrite}
use Rattle.fx_rules.specs.SingleSteps.{single_steps}

-- ---- how the examples are written
abbrev x : Tree
x = Input 0

abbrev y : Tree
y = Input 1

abbrev z : Tree
z = Input 2

abbrev number : ℕ → Tree
number n = Literal (whole (pos n))

abbrev declared : List ℕ → function.Input
declared name = record { name = name; lo = whole (pos 0); hi = whole (pos 1); err = whole (pos 0) }

-- a function of three inputs with this result
abbrev of_three : Tree → Function
of_three result = record {
  name = codes "f";
  inputs = declared (codes "x") ∷ declared (codes "y") ∷ declared (codes "z") ∷ [];
  states = [];
  temps = [];
  results = result ∷ [];
  demands = free ∷ [];
}

abbrev step : ℕ → List ℕ → ℕ → Rewriting
step place path rule = record { place = place; path = path; rule = rule }

-- ---- each rule, and a tree that it leaves
rule_1 : turned 1 (Sum x y) ≡ Becomes (Sum y x)
rule_1 = refl

rule_1_of_a_product : turned 1 (Product x y) ≡ NoMatch
rule_1_of_a_product = refl

rule_2 : turned 2 (Sum (Sum x y) z) ≡ Becomes (Sum x (Sum y z))
rule_2 = refl

rule_2_turned_round : turned 2 (Sum x (Sum y z)) ≡ NoMatch
rule_2_turned_round = refl

rule_3 : turned 3 (Sum x (Sum y z)) ≡ Becomes (Sum (Sum x y) z)
rule_3 = refl

rule_3_turned_round : turned 3 (Sum (Sum x y) z) ≡ NoMatch
rule_3_turned_round = refl

rule_4 : turned 4 (Product x y) ≡ Becomes (Product y x)
rule_4 = refl

rule_4_of_a_sum : turned 4 (Sum x y) ≡ NoMatch
rule_4_of_a_sum = refl

rule_5 : turned 5 (Product (Product x y) z) ≡ Becomes (Product x (Product y z))
rule_5 = refl

rule_5_turned_round : turned 5 (Product x (Product y z)) ≡ NoMatch
rule_5_turned_round = refl

rule_6 : turned 6 (Product x (Product y z)) ≡ Becomes (Product (Product x y) z)
rule_6 = refl

rule_6_turned_round : turned 6 (Product (Product x y) z) ≡ NoMatch
rule_6_turned_round = refl

rule_7 : turned 7 (Product x (Sum y z)) ≡ Becomes (Sum (Product x y) (Product x z))
rule_7 = refl

rule_7_of_the_first_operand : turned 7 (Product (Sum x y) z) ≡ NoMatch
rule_7_of_the_first_operand = refl

rule_8 : turned 8 (Product (Sum x y) z) ≡ Becomes (Sum (Product x z) (Product y z))
rule_8 = refl

rule_8_of_the_second_operand : turned 8 (Product x (Sum y z)) ≡ NoMatch
rule_8_of_the_second_operand = refl

rule_9 : turned 9 (Product x (Difference y z)) ≡ Becomes (Difference (Product x y) (Product x z))
rule_9 = refl

rule_9_of_a_sum : turned 9 (Product x (Sum y z)) ≡ NoMatch
rule_9_of_a_sum = refl

rule_10 : turned 10 (Product (Difference x y) z) ≡ Becomes (Difference (Product x z) (Product y z))
rule_10 = refl

rule_10_of_the_second_operand : turned 10 (Product x (Difference y z)) ≡ NoMatch
rule_10_of_the_second_operand = refl

rule_11 : turned 11 (Sum (Product x y) (Product x z)) ≡ Becomes (Product x (Sum y z))
rule_11 = refl

rule_11_of_the_last_factor : turned 11 (Sum (Product x z) (Product y z)) ≡ NoMatch
rule_11_of_the_last_factor = refl

rule_12 : turned 12 (Sum (Product x z) (Product y z)) ≡ Becomes (Product (Sum x y) z)
rule_12 = refl

rule_12_of_the_first_factor : turned 12 (Sum (Product x y) (Product x z)) ≡ NoMatch
rule_12_of_the_first_factor = refl

rule_13 : turned 13 (Difference (Product x y) (Product x z)) ≡ Becomes (Product x (Difference y z))
rule_13 = refl

rule_13_of_the_last_factor : turned 13 (Difference (Product x z) (Product y z)) ≡ NoMatch
rule_13_of_the_last_factor = refl

rule_14 : turned 14 (Difference (Product x z) (Product y z)) ≡ Becomes (Product (Difference x y) z)
rule_14 = refl

rule_14_of_the_first_factor : turned 14 (Difference (Product x y) (Product x z)) ≡ NoMatch
rule_14_of_the_first_factor = refl

rule_15 : turned 15 (Difference x y) ≡ Becomes (Sum x (Negation y))
rule_15 = refl

rule_15_of_a_sum : turned 15 (Sum x y) ≡ NoMatch
rule_15_of_a_sum = refl

rule_16 : turned 16 (Sum x (Negation y)) ≡ Becomes (Difference x y)
rule_16 = refl

rule_16_of_the_first_operand : turned 16 (Sum (Negation x) y) ≡ NoMatch
rule_16_of_the_first_operand = refl

rule_17 : turned 17 (Negation (Negation x)) ≡ Becomes x
rule_17 = refl

rule_17_of_one_sign : turned 17 (Negation x) ≡ NoMatch
rule_17_of_one_sign = refl

rule_18 : turned 18 (Negation (Product x y)) ≡ Becomes (Product (Negation x) y)
rule_18 = refl

rule_18_of_a_sum : turned 18 (Negation (Sum x y)) ≡ NoMatch
rule_18_of_a_sum = refl

rule_19 : turned 19 (Product (Negation x) y) ≡ Becomes (Negation (Product x y))
rule_19 = refl

rule_19_of_the_second_factor : turned 19 (Product x (Negation y)) ≡ NoMatch
rule_19_of_the_second_factor = refl

rule_20 : turned 20 (Negation (Sum x y)) ≡ Becomes (Sum (Negation x) (Negation y))
rule_20 = refl

rule_20_of_a_difference : turned 20 (Negation (Difference x y)) ≡ NoMatch
rule_20_of_a_difference = refl

rule_21 : turned 21 (Quotient (Sum x y) z) ≡ Becomes (Sum (Quotient x z) (Quotient y z))
rule_21 = refl

rule_21_of_a_difference : turned 21 (Quotient (Difference x y) z) ≡ NoMatch
rule_21_of_a_difference = refl

rule_22 : turned 22 (Sum (Quotient x z) (Quotient y z)) ≡ Becomes (Quotient (Sum x y) z)
rule_22 = refl

rule_22_of_two_divisors : turned 22 (Sum (Quotient x y) (Quotient x z)) ≡ NoMatch
rule_22_of_two_divisors = refl

rule_23 : turned 23 (Quotient (Quotient x y) z) ≡ Becomes (Quotient x (Product y z))
rule_23 = refl

rule_23_of_a_divisor : turned 23 (Quotient x (Quotient y z)) ≡ NoMatch
rule_23_of_a_divisor = refl

rule_24 : turned 24 (Quotient x (Product y z)) ≡ Becomes (Quotient (Quotient x y) z)
rule_24 = refl

rule_24_of_a_dividend : turned 24 (Quotient (Product x y) z) ≡ NoMatch
rule_24_of_a_dividend = refl

rule_25 : turned 25 (Quotient x (number 4)) ≡ Becomes (Product x (Literal (over (pos 1) 4)))
unfolding quotient divided over plus minus negative times lowest gcd
rule_25 = refl

rule_25_of_zero : turned 25 (Quotient x (number 0)) ≡ NoMatch
unfolding quotient divided over plus minus negative times lowest gcd
rule_25_of_zero = refl

rule_26 : turned 26 (Sum (number 2) (Literal (over (negsuc 0) 2))) ≡ Becomes (Literal (over (pos 3) 2))
unfolding quotient divided over plus minus negative times lowest gcd
rule_26 = refl

rule_26_over_the_limit : turned 26 (Sum (number (2 ^ 61)) (number (2 ^ 61))) ≡ TooLong
unfolding quotient divided over plus minus negative times lowest gcd
rule_26_over_the_limit = refl

rule_26_of_an_input : turned 26 (Sum (number 2) x) ≡ NoMatch
unfolding quotient divided over plus minus negative times lowest gcd
rule_26_of_an_input = refl

rule_27 : turned 27 (Difference (number 2) (number 5)) ≡ Becomes (Literal (whole (negsuc 2)))
unfolding quotient divided over plus minus negative times lowest gcd
rule_27 = refl

rule_27_of_a_sum : turned 27 (Sum (number 2) (number 5)) ≡ NoMatch
unfolding quotient divided over plus minus negative times lowest gcd
rule_27_of_a_sum = refl

rule_28 : turned 28 (Product (Literal (over (pos 2) 3)) (number 6)) ≡ Becomes (number 4)
unfolding quotient divided over plus minus negative times lowest gcd
rule_28 = refl

rule_28_over_the_limit : turned 28 (Product (number (2 ^ 31)) (number (2 ^ 31))) ≡ TooLong
unfolding quotient divided over plus minus negative times lowest gcd
rule_28_over_the_limit = refl

rule_28_at_the_limit : turned 28 (Product (number (2 ^ 30)) (number (2 ^ 31))) ≡ Becomes (number (2 ^ 61))
unfolding quotient divided over plus minus negative times lowest gcd
rule_28_at_the_limit = refl

rule_28_of_an_input : turned 28 (Product (number 2) x) ≡ NoMatch
unfolding quotient divided over plus minus negative times lowest gcd
rule_28_of_an_input = refl

rule_29 : turned 29 (Quotient (number 6) (number 4)) ≡ Becomes (Literal (over (pos 3) 2))
unfolding quotient divided over plus minus negative times lowest gcd
rule_29 = refl

rule_29_of_zero : turned 29 (Quotient (number 6) (number 0)) ≡ NoMatch
unfolding quotient divided over plus minus negative times lowest gcd
rule_29_of_zero = refl

rule_29_over_the_limit : turned 29 (Quotient (Literal (over (pos 1) (2 ^ 61))) (number 3)) ≡ TooLong
unfolding quotient divided over plus minus negative times lowest gcd
rule_29_over_the_limit = refl

rule_30 : turned 30 (Negation (number 3)) ≡ Becomes (Literal (whole (negsuc 2)))
unfolding quotient divided over plus minus negative times lowest gcd
rule_30 = refl

rule_30_of_an_input : turned 30 (Negation x) ≡ NoMatch
unfolding quotient divided over plus minus negative times lowest gcd
rule_30_of_an_input = refl

no_rule_0 : turned 0 (Sum x y) ≡ NoMatch
no_rule_0 = refl

no_rule_31 : turned 31 (Sum x y) ≡ NoMatch
no_rule_31 = refl

-- ---- steps on a function: x * y - x * y + x * z
abbrev worked : Function
worked = of_three (Sum (Difference (Product x y) (Product x y)) (Product x z))

taken_out : rewrite worked (step 0 (0 ∷ []) 13) ≡ Some (of_three (Sum (Product x (Difference y y)) (Product x z)))
taken_out = refl

no_difference_there : rewrite worked (step 0 (0 ∷ 0 ∷ []) 13) ≡ None
no_difference_there = refl

no_such_path : found worked 0 (0 ∷ 0 ∷ 0 ∷ 0 ∷ 0 ∷ 0 ∷ []) ≡ None
no_such_path = refl

no_such_place : found worked 1 [] ≡ None
no_such_place = refl

-- x / x has no single step, so that nothing makes 1 of it
nothing_of_a_tree_by_itself : single_steps (of_three (Quotient x x)) ≡ []
nothing_of_a_tree_by_itself = refl

-- a path stands before those that it is a prefix of, 0 before 1, and a smaller rule before a greater
in_order : single_steps (of_three (Sum (Sum x y) z)) ≡ step 0 [] 1 ∷ step 0 [] 2 ∷ step 0 (0 ∷ []) 1 ∷ []
in_order = refl

-- ---- the limits of a function
-- x below so many signs
abbrev signs : ℕ → Tree
signs zero = x
signs (suc n) = Negation (signs n)

-- from 200 to 201
too_high : rewrite (of_three (Difference (signs 198) y)) (step 0 [] 15) ≡ Some (of_three (Sum (signs 198) (Negation y)))
too_high = refl

one_too_high : rewrite (of_three (Difference x (signs 198))) (step 0 [] 15) ≡ None
one_too_high = refl
