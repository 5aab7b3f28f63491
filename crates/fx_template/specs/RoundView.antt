-- What contracts see of the bounds of a round. No clause of a public call rests on this.
use Rattle.std.specs.Prelude.{ℕ, List}
use Rattle.fx_rational.specs.Interval.{Interval}
use Rattle.fx_model.specs.Tree.{at}
use Rattle.fx_inequalities.specs.Formula.{span}
use Rattle.fx_inequalities.specs.Certificate.{zero_interval}
use Rattle.fx_formulas.specs.Places.{IsShortSpan}
use Rattle.fx_template.specs.PlainRounds as model
use Rattle.fx_template.specs.declared.round.Bounds.{Bounds}

-- the bounds of both kinds of templates
abbrev pub bounds_in : Bounds → model.Bounds
bounds_in b = record { templates = b.templates.items; error_templates = b.error_templates.items }

-- at most 96 binary places, also past the end
abbrev pub AreShortBounds : List Interval → Type 0
AreShortBounds bs = (i : ℕ) → IsShortSpan 96 (span (at zero_interval bs i))

-- of both
abbrev pub AreShortBoth : model.Bounds → Type 0
AreShortBoth b = AreShortBounds b.templates × AreShortBounds b.error_templates
