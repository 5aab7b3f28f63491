-- What the narrowest interval on a grid meets.
use Rattle.std.specs.Prelude.{◌≡◌, ℕ, ◌%◌, ◌<◌, ◌≤◌, unsigned_abs, List, true}
use Rattle.std.specs.List.{list_all}
use Rattle.fx_rational.specs.Rational.{AtMost}
use Rattle.fx_rational.specs.Dyadic.{dyadic_value}
use Rattle.fx_rational.specs.Interval.{Interval, IsWrittenInterval}
use Rattle.fx_inequalities.specs.Claim.{Claim, fits, holds}
use Rattle.fx_outward.specs.Narrow.{Bounds, narrow}

-- an interval holds the bounds
pub record Covers (g : Interval) (b : Bounds) : Type 0 where
  pub low : AtMost (dyadic_value g.lo) b.lo
  pub high : AtMost b.hi (dyadic_value g.hi)

-- on grid e
pub record IsOnGrid (e : ℕ) (g : Interval) : Type 0 where
  pub lo : g.lo.e ≤ e
  pub hi : g.hi.e ≤ e

-- it lies in lowest terms on grid e, and inside each other one that covers the bounds
pub record IsNarrowest (e : ℕ) (b : Bounds) (g : Interval) : Type 0 where
  pub covers : Covers g b
  pub grid : IsOnGrid e g
  pub lo_lowest : 0 < g.lo.e → unsigned_abs g.lo.m % 2 ≡ 1
  pub hi_lowest : 0 < g.hi.e → unsigned_abs g.hi.m % 2 ≡ 1
  pub inside : (j : Interval) → IsOnGrid e j → Covers j b →
      AtMost (dyadic_value j.lo) (dyadic_value g.lo) × AtMost (dyadic_value g.hi) (dyadic_value j.hi)

abbrev pub NarrowLaw : Type 0
NarrowLaw = (e : ℕ) (b : Bounds) → IsNarrowest e b (narrow e b)

-- the narrowest on grid e that meets claims of it: they fit and hold, it can be written, and it lies inside each other
-- one of which they hold
pub record IsNarrowestOf (e : ℕ) (claims : Interval → List Claim) (g : Interval) : Type 0 where
  pub fit : list_all fits (claims g) ≡ true
  pub hold : list_all holds (claims g) ≡ true
  pub written : IsWrittenInterval g
  pub grid : IsOnGrid e g
  pub inside : (j : Interval) → IsOnGrid e j → list_all holds (claims j) ≡ true →
      AtMost (dyadic_value j.lo) (dyadic_value g.lo) × AtMost (dyadic_value g.hi) (dyadic_value j.hi)
