-- What contracts see of the narrowest interval.
use Rattle.std.specs.Prelude.{◌≡◌, ◌≤◌, Bool, Option, Some, None, Result, Ok, Err, true, false, ◌&&◌, if◌then◌else◌}
use Rattle.fx_rational.specs.Dyadic.{Dyadic, dyadic_value}
use Rattle.fx_rational.specs.Interval.{Interval}
use Rattle.fx_inequalities.specs.Formula.{span}
use Rattle.fx_inequalities.specs.NodeConditions.{quotient_claims}
use Rattle.fx_outward.specs.Narrow.{Bounds, is_apart, quotient_bounds, narrowest}
use Rattle.fx_outward.specs.Grid.{is_small}
use Rattle.fx_outward.specs.declared.fault.Why.{Why}
use Rattle.fx_outward.specs.declared.fault.Why.TheVariants.{Zero, Beyond}

-- the ends of an interval
abbrev pub bounds_of : Interval → Bounds
bounds_of x = record { lo = dyadic_value x.lo; hi = dyadic_value x.hi }

-- this interval, where its mantissas have at most 62 bits
abbrev pub IsIfSmall : Option Interval → Interval → Type 0
IsIfSmall None x = (is_small x.lo && is_small x.hi) ≡ false
IsIfSmall (Some y) x = (y ≡ x) × ((is_small x.lo && is_small x.hi) ≡ true)

-- what is kept, or that a number gets too long
abbrev pub answer_of : Option Interval → Result Interval Why
answer_of None = Err Beyond
answer_of (Some g) = Ok g

-- the interval, where both claims of it fit
abbrev pub if_fitting : Interval → Bool → Bool → Result Interval Why
if_fitting g a b = if a && b then Ok g else Err Beyond

-- a mantissa of 62 bits and at most 24 binary places
pub record IsPlainEnd (d : Dyadic) : Type 0 where
  pub small : is_small d ≡ true
  pub places : d.e ≤ 24

-- both ends
pub record IsPlainInterval (i : Interval) : Type 0 where
  pub lo : IsPlainEnd i.lo
  pub hi : IsPlainEnd i.hi

-- few enough binary places for a product
pub record HasFewPlaces (i : Interval) : Type 0 where
  pub lo : i.lo.e ≤ 512
  pub hi : i.hi.e ≤ 512

-- a quotient of plain ranges
abbrev pub plain_quotient : Interval → Interval → Result Interval Why
plain_quotient a b = if is_apart (span b)
    then narrowest 24 (quotient_bounds (span a) (span b)) (λ g. quotient_claims (span a) (span b) (span g))
    else Err Zero
