-- Where states start.
use Rattle.std.specs.Prelude.{ℕ, List}
use Rattle.fx_model.specs.Tree.{at}
use Rattle.fx_inequalities.specs.Formula.{Span, span}
use Rattle.fx_inequalities.specs.Certificate.{StartBox, no_box}
use Rattle.fx_cert.specs.declared.side.Side.{Side}
use Rattle.fx_cert.specs.declared.side.Side.TheVariants.{Value, Error}

-- where the start of state s lies, or its word's difference
abbrev pub box_at : Side → List StartBox → ℕ → Span
box_at Value boxes s = span (at no_box boxes s).range
box_at Error boxes s = span (at no_box boxes s).error
