-- The narrowest interval on a grid round exact bounds.
use Rattle.std.specs.Prelude.{ℕ, ◌*◌, unsigned_abs, ℤ, pos, ◌*ℤ◌, Bool, ◌&&◌, ◌||◌, if◌then◌else◌, List, Result, Ok, Err}
use Rattle.std.specs.List.{list_all}
use Rattle.fx_rational.specs.Rational.{Rational, bottom, over, plus, minus, is_at_most, is_positive, is_negative}
use Rattle.fx_rational.specs.Interval.{Interval}
use Rattle.fx_inequalities.specs.Formula.{Span, formula_value, unit_at, zero_span, span_difference}
use Rattle.fx_inequalities.specs.Claim.{Claim, fits}
use Rattle.fx_outward.specs.Grid.{grid_down, grid_up, is_small}
use Rattle.fx_outward.specs.declared.fault.Why.{Why}
use Rattle.fx_outward.specs.declared.fault.Why.TheVariants.{Beyond}

-- ---- bounds
-- what an interval has to hold
pub record Bounds : Type 0 where
  pub lo : Rational
  pub hi : Rational

-- the narrowest on grid e that holds them
abbrev pub narrow : ℕ → Bounds → Interval
narrow e b = record { lo = grid_down e b.lo; hi = grid_up e b.hi }

-- those of a span
abbrev pub span_bounds : Span → Bounds
span_bounds s = record { lo = formula_value s.lo; hi = formula_value s.hi }

-- p / q, for q above zero
unfoldable pub ratio : Rational → Rational → Rational
ratio p q = over (p.top *ℤ pos (bottom q)) (bottom p * unsigned_abs q.top)

-- the lesser and the greater of two
abbrev pub lesser_value : Rational → Rational → Rational
lesser_value x y = if is_at_most x y then x else y

abbrev pub greater_value : Rational → Rational → Rational
greater_value x y = if is_at_most y x then x else y

-- of the quotients of what lies in a by what lies in b, both ends of b above zero
abbrev pub positive_bounds : Span → Span → Bounds
positive_bounds a b = record {
  lo = lesser_value (ratio (formula_value a.lo) (formula_value b.lo)) (ratio (formula_value a.lo) (formula_value b.hi));
  hi =
      greater_value (ratio (formula_value a.hi) (formula_value b.lo)) (ratio (formula_value a.hi) (formula_value b.hi));
}

-- the same for a divisor of either sign
abbrev pub quotient_bounds : Span → Span → Bounds
quotient_bounds a b = if is_positive (formula_value b.lo) then positive_bounds a b
    else positive_bounds (span_difference zero_span a) (span_difference zero_span b)

-- both ends above zero, or both below
abbrev pub is_apart : Span → Bool
is_apart s = (is_positive (formula_value s.lo) && is_positive (formula_value s.hi)) ||
    (is_negative (formula_value s.lo) && is_negative (formula_value s.hi))

-- ---- units
-- 2^-f, which a machine's operation loses at point f
abbrev pub unit_value : ℤ → Rational
unit_value f = formula_value (unit_at f)

-- what the machine's quotient loses comes on top on both sides
abbrev pub widened : ℤ → Bounds → Bounds
widened f b = record { lo = minus b.lo (unit_value f); hi = plus b.hi (unit_value f) }

-- one number alone
abbrev pub single : Rational → Bounds
single x = record { lo = x; hi = x }

-- ---- where it is there
-- the narrowest on grid e round the bounds, where it is short and these claims of it fit
abbrev pub narrowest : ℕ → Bounds → (Interval → List Claim) → Result Interval Why
narrowest e b claims =
    let g = narrow e b in if is_small g.lo && is_small g.hi && list_all fits (claims g) then Ok g else Err Beyond
