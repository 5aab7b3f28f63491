-- One side of a certificate, values or errors, as contracts see it.
use Rattle.std.specs.Prelude.{ℕ, ◌+◌, List, length}
use Rattle.fx_model.specs.Function.{Function}
use Rattle.fx_inequalities.specs.Certificate.{Certificate, NodeLine, Share, Template}
use Rattle.fx_inequalities.specs.Formula.{Formula, Span}
use Rattle.fx_inequalities.specs.Affine.{Affine, Templates, affine_at, bound_by_templates, templates_of}
use Rattle.fx_cert.specs.Sides.{side_at}
use Rattle.fx_cert.specs.declared.side.Side.{Side}
use Rattle.fx_cert.specs.declared.side.Side.TheVariants.{Value, Error}

-- which of the two it is; the lines of the nodes, the templates of this side, and how many inputs and states there are
pub record OneSide : Type 0 where
  pub which : Side
  pub lines : List NodeLine
  pub templates : List Template
  pub inputs : ℕ
  pub states : ℕ

-- the two sides of a certificate of a function
abbrev pub values_of : Function → Certificate → OneSide
values_of fn c = record {
  which = Value;
  lines = c.lines;
  templates = c.templates;
  inputs = length fn.inputs;
  states = length fn.states;
}

abbrev pub errors_of : Function → Certificate → OneSide
errors_of fn c = record {
  which = Error;
  lines = c.lines;
  templates = c.error_templates;
  inputs = length fn.inputs;
  states = length fn.states;
}

-- where the variables lie
abbrev pub spans_on : OneSide → ℕ → Span
spans_on s = side_at s.which s.lines

-- the templates, of which the first are the states' own
abbrev pub templates_on : OneSide → Templates
templates_on s = templates_of s.states s.templates

-- the form of node n
abbrev pub form_on : OneSide → ℕ → Affine
form_on s n = affine_at (s.inputs + s.states) s.lines n

-- where z + c times the variables lies, by these shares of templates
abbrev pub bound_on : OneSide → (ℕ → Formula) → Span → List Share → Span
bound_on s c z shares = bound_by_templates s.inputs s.states c z (spans_on s) (templates_on s) shares
