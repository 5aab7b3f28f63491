-- Linear trees, and the terms that they add up.
use Rattle.std.specs.Prelude.{ℕ, pos, Bool, true, false, ◌&&◌, List, [], ◌∷◌, ◌++◌}
use Rattle.fx_rational.specs.Rational.{Rational, whole, plus, times, is_at_most}
use Rattle.fx_model.specs.Tree as tree
use Rattle.fx_model.specs.Tree.{Tree}
use Rattle.fx_plan_laws.specs.Powers.{magnitude}

-- a literal times an input or a state, in either order
abbrev pub is_scaled : Tree → Tree → Bool
is_scaled (tree.Literal c) (tree.Input k) = true
is_scaled (tree.Literal c) (tree.State k) = true
is_scaled (tree.Input k) (tree.Literal c) = true
is_scaled (tree.State k) (tree.Literal c) = true
is_scaled a b = false

-- literals, inputs, states, such products, and their negations, sums and differences
abbrev pub is_linear : Tree → Bool
is_linear (tree.Literal c) = true
is_linear (tree.Input k) = true
is_linear (tree.State k) = true
is_linear (tree.Temp k) = false
is_linear (tree.Negation a) = is_linear a
is_linear (tree.Sum a b) = is_linear a && is_linear b
is_linear (tree.Difference a b) = is_linear a && is_linear b
is_linear (tree.Product a b) = is_scaled a b
is_linear (tree.Quotient a b) = false

-- ---- terms
-- a literal that stands alone, or so many times an input or a state; sizes have no sign
pub data Term : Type 0 where
  Alone : (size : Rational) → Term
  OfInput : (k : ℕ) (size : Rational) → Term
  OfState : (k : ℕ) (size : Rational) → Term

-- of a product
abbrev pub scaled_term : Tree → Tree → Term
scaled_term (tree.Literal c) (tree.Input k) = OfInput k (magnitude c)
scaled_term (tree.Literal c) (tree.State k) = OfState k (magnitude c)
scaled_term (tree.Input k) (tree.Literal c) = OfInput k (magnitude c)
scaled_term (tree.State k) (tree.Literal c) = OfState k (magnitude c)
scaled_term a b = Alone (whole (pos 0))

-- of a linear tree, from left to right; a bare input or state counts once
abbrev pub terms_of : Tree → List Term
terms_of (tree.Literal c) = Alone (magnitude c) ∷ []
terms_of (tree.Input k) = OfInput k (whole (pos 1)) ∷ []
terms_of (tree.State k) = OfState k (whole (pos 1)) ∷ []
terms_of (tree.Temp k) = []
terms_of (tree.Negation a) = terms_of a
terms_of (tree.Sum a b) = terms_of a ++ terms_of b
terms_of (tree.Difference a b) = terms_of a ++ terms_of b
terms_of (tree.Product a b) = scaled_term a b ∷ []
terms_of (tree.Quotient a b) = []

-- what each term is worth, added up
abbrev pub total : (Term → Rational) → List Term → Rational
total f [] = whole (pos 0)
total f (x ∷ xs) = plus (f x) (total f xs)

-- ---- what a term is worth
-- its size, where it is one of an input, of a state, or stands alone
abbrev pub input_size : Term → Rational
input_size (OfInput k size) = size
input_size x = whole (pos 0)

abbrev pub state_size : Term → Rational
state_size (OfState k size) = size
state_size x = whole (pos 0)

abbrev pub literal_size : Term → Rational
literal_size (Alone size) = size
literal_size x = whole (pos 0)

-- its size times what its input reaches
abbrev pub input_reach : (ℕ → Rational) → Term → Rational
input_reach m (OfInput k size) = times size (m k)
input_reach m x = whole (pos 0)

-- ---- literals
-- each literal of a tree, without its sign, is at most b
abbrev pub are_literals_below : Rational → Tree → Bool
are_literals_below b (tree.Literal c) = is_at_most (magnitude c) b
are_literals_below b (tree.Input k) = true
are_literals_below b (tree.State k) = true
are_literals_below b (tree.Temp k) = true
are_literals_below b (tree.Negation x) = are_literals_below b x
are_literals_below b (tree.Sum x y) = are_literals_below b x && are_literals_below b y
are_literals_below b (tree.Difference x y) = are_literals_below b x && are_literals_below b y
are_literals_below b (tree.Product x y) = are_literals_below b x && are_literals_below b y
are_literals_below b (tree.Quotient x y) = are_literals_below b x && are_literals_below b y
