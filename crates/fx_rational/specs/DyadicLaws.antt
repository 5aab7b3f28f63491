-- What the definitions of dyadics and of their intervals must obey.
use Rattle.std.specs.Prelude.{◌≡◌, ℕ, ◌<◌, ◌≤◌, ℤ, pos, ◌+ℤ◌, ◌-ℤ◌, ◌*ℤ◌, ◌≤ℤ◌, ◌<ℤ◌, ◌↔◌, ◌⊎◌, IsTrue, FitsSigned}
use Rattle.std.specs.Int.{w128}
use Rattle.fx_rational.specs.Rational.{Rational, plus, minus, times, Equal, AtMost, floor_div, ceil_div}
use Rattle.fx_rational.specs.Dyadic.{Dyadic, dyadic_value, dyadic_sum, dyadic_difference, dyadic_product, is_dyadic_at_most, least, greatest, fits_128, rounded_down, rounded_up}
use Rattle.fx_rational.specs.Interval.{Interval, interval_sum, interval_difference, interval_product, is_inside, outward_to}

-- a mantissa fits exactly where Rust's i128 has it
abbrev pub FitsLaw : Type 0
FitsLaw = (z : ℤ) → IsTrue (fits_128 z) ↔ FitsSigned w128 z

-- r is the greatest whole number of which d times isn't above v
pub record IsFloor (v : ℤ) (d : ℕ) (r : ℤ) : Type 0 where
  pub not_above : (r *ℤ pos d) ≤ℤ v
  pub greatest : v <ℤ (r *ℤ pos d +ℤ pos d)

-- floor_div is that number
abbrev pub FloorLaw : Type 0
FloorLaw = (v : ℤ) (d : ℕ) → 0 < d → IsFloor v d (floor_div v d)

-- r is the least whole number of which d times isn't below v
pub record IsCeiling (v : ℤ) (d : ℕ) (r : ℤ) : Type 0 where
  pub not_below : v ≤ℤ (r *ℤ pos d)
  pub least : (r *ℤ pos d -ℤ pos d) <ℤ v

-- ceil_div is that number
abbrev pub CeilingLaw : Type 0
CeilingLaw = (v : ℤ) (d : ℕ) → 0 < d → IsCeiling v d (ceil_div v d)

-- the value of a sum is the sum of the values
abbrev pub SumLaw : Type 0
SumLaw = (a b : Dyadic) → Equal (dyadic_value (dyadic_sum a b)) (plus (dyadic_value a) (dyadic_value b))

-- and of a difference the difference
abbrev pub DifferenceLaw : Type 0
DifferenceLaw = (a b : Dyadic) → Equal (dyadic_value (dyadic_difference a b)) (minus (dyadic_value a) (dyadic_value b))

-- and of a product the product
abbrev pub ProductLaw : Type 0
ProductLaw = (a b : Dyadic) → Equal (dyadic_value (dyadic_product a b)) (times (dyadic_value a) (dyadic_value b))

-- the test on dyadics is the order of their values
abbrev pub OrderLaw : Type 0
OrderLaw = (a b : Dyadic) → IsTrue (is_dyadic_at_most a b) ↔ AtMost (dyadic_value a) (dyadic_value b)

-- r is one of the two, isn't above either, and is a where they are equal
pub record IsLeast (a b r : Dyadic) : Type 0 where
  pub one : (r ≡ a) ⊎ (r ≡ b)
  pub left : AtMost (dyadic_value r) (dyadic_value a)
  pub right : AtMost (dyadic_value r) (dyadic_value b)
  pub first : Equal (dyadic_value a) (dyadic_value b) → r ≡ a

-- least is that one
abbrev pub LeastLaw : Type 0
LeastLaw = (a b : Dyadic) → IsLeast a b (least a b)

-- r is one of the two, isn't below either, and is a where they are equal
pub record IsGreatest (a b r : Dyadic) : Type 0 where
  pub one : (r ≡ a) ⊎ (r ≡ b)
  pub left : AtMost (dyadic_value a) (dyadic_value r)
  pub right : AtMost (dyadic_value b) (dyadic_value r)
  pub first : Equal (dyadic_value a) (dyadic_value b) → r ≡ a

-- greatest is that one
abbrev pub GreatestLaw : Type 0
GreatestLaw = (a b : Dyadic) → IsGreatest a b (greatest a b)

-- r is the greatest dyadic not above d of all those whose exponent is at most e
pub record IsRoundedDown (d : Dyadic) (e : ℕ) (r : Dyadic) : Type 0 where
  pub exponent : r.e ≤ e
  pub not_above : AtMost (dyadic_value r) (dyadic_value d)
  pub greatest : (x : Dyadic) → x.e ≤ e → AtMost (dyadic_value x) (dyadic_value d) →
      AtMost (dyadic_value x) (dyadic_value r)

-- rounded_down is that dyadic
abbrev pub RoundedDownLaw : Type 0
RoundedDownLaw = (d : Dyadic) (e : ℕ) → IsRoundedDown d e (rounded_down d e)

-- r is the least dyadic not below d of all those whose exponent is at most e
pub record IsRoundedUp (d : Dyadic) (e : ℕ) (r : Dyadic) : Type 0 where
  pub exponent : r.e ≤ e
  pub not_below : AtMost (dyadic_value d) (dyadic_value r)
  pub least : (x : Dyadic) → x.e ≤ e → AtMost (dyadic_value d) (dyadic_value x) →
      AtMost (dyadic_value r) (dyadic_value x)

-- rounded_up is that dyadic
abbrev pub RoundedUpLaw : Type 0
RoundedUpLaw = (d : Dyadic) (e : ℕ) → IsRoundedUp d e (rounded_up d e)

-- x lies between the ends
pub record Holds (i : Interval) (x : Rational) : Type 0 where
  pub low : AtMost (dyadic_value i.lo) x
  pub high : AtMost x (dyadic_value i.hi)

-- a sum of intervals holds the sum of any two members
abbrev pub IntervalSumLaw : Type 0
IntervalSumLaw = (a b : Interval) (x y : Rational) → Holds a x → Holds b y → Holds (interval_sum a b) (plus x y)

-- and a difference the difference
abbrev pub IntervalDifferenceLaw : Type 0
IntervalDifferenceLaw =
    (a b : Interval) (x y : Rational) → Holds a x → Holds b y → Holds (interval_difference a b) (minus x y)

-- and a product the product
abbrev pub IntervalProductLaw : Type 0
IntervalProductLaw =
    (a b : Interval) (x y : Rational) → Holds a x → Holds b y → Holds (interval_product a b) (times x y)

-- what lies inside another interval has no member that the other lacks
abbrev pub InsideLaw : Type 0
InsideLaw = (a b : Interval) (x : Rational) → IsTrue (is_inside a b) → Holds a x → Holds b x

-- r is the narrowest interval round i of all those whose ends have exponents of at most e
pub record IsOutward (i : Interval) (e : ℕ) (r : Interval) : Type 0 where
  pub low_exponent : r.lo.e ≤ e
  pub high_exponent : r.hi.e ≤ e
  pub round : IsTrue (is_inside i r)
  pub narrowest : (j : Interval) → j.lo.e ≤ e → j.hi.e ≤ e → IsTrue (is_inside i j) → IsTrue (is_inside r j)

-- outward_to is that interval
abbrev pub OutwardLaw : Type 0
OutwardLaw = (i : Interval) (e : ℕ) → IsOutward i e (outward_to i e)
