-- What contracts see of a quotient's error.
use Rattle.std.specs.Prelude.{ℤ, ◌&&◌, if◌then◌else◌, List, [], ◌∷◌, Result, Err}
use Rattle.std.specs.List.{list_all}
use Rattle.fx_rational.specs.Rational.{below_zero}
use Rattle.fx_rational.specs.Dyadic.{Dyadic, least, greatest}
use Rattle.fx_rational.specs.Interval.{Interval}
use Rattle.fx_inequalities.specs.Formula.{Span, span}
use Rattle.fx_inequalities.specs.Claim.{Claim, Clear, fits, holds}
use Rattle.fx_inequalities.specs.OperationSpans.{without_unit}
use Rattle.fx_inequalities.specs.NodeConditions.{quotient_claims}
use Rattle.fx_outward.specs.declared.fault.Why.{Why}
use Rattle.fx_outward.specs.declared.fault.Why.TheVariants.{Zero, Beyond}
use Rattle.fx_outward.specs.Narrow.{Bounds, quotient_bounds, is_apart, narrowest, widened}
use Rattle.fx_outward.specs.Grid.{error_grid}

-- the end of a divisor above zero that gives the lesser quotient of a, and the one that gives the greater
abbrev pub lesser_divisor : Dyadic → Interval → Dyadic
lesser_divisor a b = if below_zero a.m then least b.lo b.hi else greatest b.lo b.hi

abbrev pub greater_divisor : Dyadic → Interval → Dyadic
greater_divisor a b = if below_zero a.m then greatest b.lo b.hi else least b.lo b.hi

-- the narrowest round these bounds that the claims of a quotient allow, less a unit at point f on either side
abbrev pub around_quotient : ℤ → Bounds → Span → Span → Result Interval Why
around_quotient f bounds s t = narrowest (error_grid f) bounds (λ h. quotient_claims s t (without_unit f (span h)))

-- of a divisor of either sign
abbrev pub unit_quotient : ℤ → Span → Span → Result Interval Why
unit_quotient f s t = if is_apart t then around_quotient f (widened f (quotient_bounds s t)) s t else Err Zero

-- after the divisor's own claims, g being the exact divisor
abbrev pub cleared_quotient : ℤ → Span → Span → Span → Result Interval Why
cleared_quotient f g s t =
    let claims : List Claim = Clear g t ∷ [] in
    if list_all fits claims then if list_all holds claims &&
    is_apart t then around_quotient f (widened f (quotient_bounds s t)) s t else Err Zero else Err Beyond
