-- One step of the states, as templates see it: how many variables there are, where the next states stand, and the lines
-- of all nodes.
use Rattle.std.specs.Prelude.{ℕ, ◌+◌, ◌-◌, ◌≤◌, ℤ, pos, List, length, Option, Some, None}
use Rattle.fx_rational.specs.Dyadic.{Dyadic, zero_dyadic}
use Rattle.fx_rational.specs.Interval.{Interval}
use Rattle.fx_model.specs.Tree.{at}
use Rattle.fx_model.specs.LawfulProgram.{IsPoint}
use Rattle.fx_inequalities.specs.Certificate.{Form, NodeLine, zero_interval}
use Rattle.fx_conditions.specs.Limits.{AreShortLines}
use Rattle.fx_cert.specs.CertificateView.{lines_view}
use Rattle.fx_template.specs.AffineView.{LinearForm, Planned}
use Rattle.fx_flat.specs.declared.node.Nodes.{Nodes}
use Rattle.fx_template.specs.Listed.{tabulate}
use Rattle.fx_template_reach.specs.declared.transition.Transition as code

-- the node of the first next state is `next`
pub record Transition : Type 0 where
  pub inputs : ℕ
  pub states : ℕ
  pub next : ℕ
  pub points : List ℤ
  pub lines : List NodeLine

-- what contracts see of one
abbrev pub transition_in : code.Transition → Transition
transition_in t = record {
  inputs = t.inputs;
  states = t.states;
  next = t.next;
  points = t.points.now;
  lines = lines_view t.lines.items;
}

-- ---- the lines of a plan, which name no shares
abbrev pub planned_form : Option LinearForm → Interval → Dyadic × Dyadic → Option Form
planned_form None rest centres = None
planned_form (Some f) rest centres = Some record {
  centre_a = centres.0;
  centre_b = centres.1;
  coefs = f.coefs;
  rest = f.rest;
  error_rest = rest;
  range_by = None;
  error_by = None;
}

-- the line of node n
abbrev pub planned_line : Planned → ℕ → NodeLine
planned_line p n = record {
  range = at zero_interval p.ranges n;
  error = at zero_interval p.errors n;
  form =
      planned_form (at None p.forms n) (at zero_interval p.error_rests n) (at (zero_dyadic, zero_dyadic) p.centres n);
}

-- those of all nodes
abbrev pub planned_lines : Planned → List NodeLine
planned_lines p = tabulate (length p.ranges) (planned_line p)

-- one step by a plan
abbrev pub transition_of : Nodes → Planned → Transition
transition_of nodes p = record {
  inputs = nodes.inputs;
  states = nodes.states;
  next = length nodes.list - nodes.states;
  points = p.points;
  lines = planned_lines p;
}

-- ---- few variables and nodes, and dyadics of at most 96 binary places
pub record IsModestTransition (t : Transition) : Type 0 where
  pub inputs : t.inputs ≤ 64
  pub states : t.states ≤ 32
  pub nodes : t.next + t.states ≤ 4000
  pub points : (n : ℕ) → IsPoint (at (pos 0) t.points n)
  pub lines : AreShortLines t.lines
