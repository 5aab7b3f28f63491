-- What contracts see of the sums that are compared with powers of two.
use Rattle.std.specs.Prelude.{ℕ, pos, ◌*◌, ◌^◌, ◌≤◌, ◌<◌, unsigned_abs}
use Rattle.fx_rational.specs.Rational.{Rational, bottom, whole, plus, times}
use Rattle.fx_model.specs.Tree.{Tree}
use Rattle.fx_model.specs.Function.{Function}
use Rattle.fx_plan_laws.specs.Powers.{power_value}
use Rattle.fx_plan_laws.specs.Linear.{Term, Alone, OfInput, OfState}
use Rattle.fx_plan_laws.specs.Calm.{reach_at, input_sizes, state_sizes, literal_sizes, input_reaches}
use Rattle.fx_calm.specs.declared.summand.Summand.{Summand}
use Rattle.fx_calm.specs.declared.magnitude.Magnitude.{Magnitude}
use Rattle.fx_calm.specs.MagnitudeOf.{IsMagnitude}
use Rattle.fx_calm.specs.declared.sum.Sum.{Sum}
use Rattle.fx_calm.specs.declared.sum.Sum.TheVariants.{States, Sizes, Adds, Values}

-- what each sum of a tree comes to
abbrev pub sum_value : Function → Sum → Tree → Rational
sum_value fn States t = plus (state_sizes t) (state_sizes t)
sum_value fn Sizes t = plus (input_sizes t) (state_sizes t)
sum_value fn Adds t = plus (input_reaches fn t) (literal_sizes t)
sum_value fn (Values s) t =
    plus (times (state_sizes t) (power_value (pos s))) (plus (input_reaches fn t) (literal_sizes t))

-- ---- term by term
-- how often the size of a term counts: of one of a state, that stands alone, or of an input
abbrev pub state_weight : Sum → Rational
state_weight States = whole (pos 2)
state_weight Sizes = whole (pos 1)
state_weight Adds = whole (pos 0)
state_weight (Values s) = whole (pos (2 ^ s))

abbrev pub literal_weight : Sum → Rational
literal_weight States = whole (pos 0)
literal_weight Sizes = whole (pos 0)
literal_weight Adds = whole (pos 1)
literal_weight (Values s) = whole (pos 1)

abbrev pub input_weight : Function → Sum → ℕ → Rational
input_weight fn States k = whole (pos 0)
input_weight fn Sizes k = whole (pos 1)
input_weight fn Adds k = reach_at fn k
input_weight fn (Values s) k = reach_at fn k

abbrev pub weight_of : Function → Sum → Term → Rational
weight_of fn sum (Alone x) = literal_weight sum
weight_of fn sum (OfInput k x) = input_weight fn sum k
weight_of fn sum (OfState k x) = state_weight sum

-- its size
abbrev pub size_of : Term → Rational
size_of (Alone x) = x
size_of (OfInput k x) = x
size_of (OfState k x) = x

-- as a summand of the sum
abbrev pub summand_of : Function → Sum → Term → Summand
summand_of fn sum x =
    let s = size_of x in
    let w = weight_of fn sum x in
    record { top = unsigned_abs s.top * unsigned_abs w.top; bottom = bottom s * bottom w }

-- states are at most 2^25
abbrev pub IsSum : Sum → Type 0
IsSum (Values s) = s ≤ 25
IsSum sum = Unit {0}

-- a weight is a size that a decimal or a whole number may have
pub record IsWeight (x : Magnitude) : Type 0 where
  pub size : IsMagnitude x
  pub decimal : x.bottom ≤ 10 ^ 18

-- a summand without what is asked of its value
pub record IsNarrowSummand (x : Summand) : Type 0 where
  pub some : 0 < x.bottom
  pub few : x.bottom < 2 ^ 122
  pub fits : x.top < 2 ^ 127
