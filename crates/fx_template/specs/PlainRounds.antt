-- Plain rounds: bounds of the unit templates alone, raised until one step keeps them or the rounds are over.
use Rattle.std.specs.Prelude.{ℕ, zero, suc, ◌+◌, pos, Bool, ◌&&◌, List, [], Option, Some, None, Result}
use Rattle.std.specs.List.{list_all}
use Rattle.std.specs.Option.{option_map}
use Rattle.fx_rational.specs.Interval.{Interval}
use Rattle.fx_model.specs.Tree.{at}
use Rattle.fx_inequalities.specs.Formula.{Least, Greatest, Span, span}
use Rattle.fx_inequalities.specs.Claim.{Claim, fits, holds, inside}
use Rattle.fx_inequalities.specs.Certificate.{Template, no_line, zero_interval}
use Rattle.fx_inequalities.specs.LawfulCertificate.{unit_vector}
use Rattle.fx_cert.specs.declared.side.Side.{Side}
use Rattle.fx_cert.specs.declared.side.Side.TheVariants.{Value, Error}
use Rattle.fx_template_conditions.specs.KeptTemplates.{kept_template, next_template}
use Rattle.fx_outward.specs.Grid.{is_small, error_grid}
use Rattle.fx_outward.specs.Narrow.{narrowest, span_bounds}
use Rattle.fx_outward.specs.declared.fault.Why.{Why}
use Rattle.fx_template.specs.Listed.{each_below, first_untrue, or_else, tabulate}
use Rattle.fx_template.specs.Transitions.{Transition}

-- ---- unit templates
-- that of state i among k, with this bound and no shares
abbrev pub unit_template : ℕ → Interval → ℕ → Template
unit_template k bound i = record { coefs = unit_vector k i; bound = bound; shares = [] }

-- one for each state
abbrev pub unit_templates : ℕ → List Interval → List Template
unit_templates k bounds = tabulate k (λ i. unit_template k (at zero_interval bounds i) i)

-- where state i lies, or its error
abbrev pub state_bound : Side → Transition → ℕ → Interval
state_bound Value t i = (at no_line t.lines (t.inputs + i)).range
state_bound Error t i = (at no_line t.lines (t.inputs + i)).error

-- the bounds to begin with
abbrev pub first_bounds : Side → Transition → List Interval
first_bounds side t = tabulate t.states (state_bound side t)

-- ---- a round
-- 24 binary places by value, and by error eight more than those of the state's point
abbrev pub template_grid : Side → Transition → ℕ → ℕ
template_grid Value t i = 24
template_grid Error t i = error_grid (at (pos 0) t.points (t.inputs + i))

-- it holds both
abbrev pub hull : Span → Span → Span
hull a b = record { lo = Least a.lo b.lo; hi = Greatest a.hi b.hi }

-- what the new bound of unit template i has to hold: the old one, and where the template lies after one step
abbrev pub raised_span : Side → Transition → List Interval → ℕ → Span
raised_span side t bounds i =
    hull (span (at zero_interval bounds i))
    (next_template t.inputs t.states t.next t.lines (unit_templates t.states bounds) side i)

-- the narrowest on its grid that does, where it is there
abbrev pub raised_bound : Side → Transition → List Interval → ℕ → Result Interval Why
raised_bound side t bounds i =
    let s = raised_span side t bounds i in narrowest (template_grid side t i) (span_bounds s) (λ b. inside s (span b))

-- all at once, where each is there
abbrev pub raised_bounds : Side → Transition → List Interval → Option (List Interval)
raised_bounds side t bounds = each_below t.states (raised_bound side t bounds)

-- ---- rounds
-- the bounds of the unit templates and of the unit error templates
pub record Bounds : Type 0 where
  pub templates : List Interval
  pub error_templates : List Interval

abbrev pub bounds_at_first : Transition → Bounds
bounds_at_first t = record { templates = first_bounds Value t; error_templates = first_bounds Error t }

-- both, where both are there
abbrev pub both_bounds : Option (List Interval) → Option (List Interval) → Option Bounds
both_bounds (Some xs) (Some ys) = Some record { templates = xs; error_templates = ys }
both_bounds (Some xs) None = None
both_bounds None ys = None

-- after a round, where it is carried out
abbrev pub bounds_after : Transition → Bounds → Option Bounds
bounds_after t b = both_bounds (raised_bounds Value t b.templates) (raised_bounds Error t b.error_templates)

-- on with these, or else an end with those
abbrev pub and_on : (Bounds → Bounds) → Option Bounds → Bounds → Bounds
and_on more (Some b) old = more b
and_on more None old = old

-- after n rounds, or before the first that isn't carried out
abbrev pub plain_rounds : ℕ → Transition → Bounds → Bounds
plain_rounds zero t b = b
plain_rounds (suc n) t b = and_on (plain_rounds n t) (bounds_after t b) b

-- ---- which templates stand
-- one step keeps the template: each comparison fits and is true
abbrev pub are_met : List Claim → Bool
are_met claims = list_all fits claims && list_all holds claims

-- a template stands where one step keeps it, and its bound has mantissas of at most 62 bits
abbrev pub stands : Side → Transition → List Interval → ℕ → Bool
stands side t bounds i =
    let b = at zero_interval bounds i in
    is_small b.lo && is_small b.hi &&
    are_met (kept_template t.inputs t.states t.next t.lines (unit_templates t.states bounds) side i)

-- the first that doesn't, counted over the templates and then over the error templates
abbrev pub first_fallen : Transition → Bounds → Option ℕ
first_fallen t b =
    or_else (first_untrue t.states (stands Value t b.templates))
    (option_map (λ i. t.states + i) (first_untrue t.states (stands Error t b.error_templates)))
