-- The calm plan of a calm function: the program and the certificate that its numbers give.
use Rattle.std.specs.Prelude.{ℕ, zero, suc, ◌+◌, pos, neg_ℤ, List, [], ◌∷◌, ◌++◌, map, length, None}
use Rattle.fx_rational.specs.Rational.{scaled, floor}
use Rattle.fx_rational.specs.Interval.{Interval}
use Rattle.fx_model.specs.Tree.{at}
use Rattle.fx_model.specs.Function as function
use Rattle.fx_model.specs.Function.{Function}
use Rattle.fx_model.specs.Machine as machine
use Rattle.fx_model.specs.Machine.{Round, Code, Program}
use Rattle.fx_model.specs.Nodes.{Node, Input, State, Const, Neg, Add, Sub, Mul, Div, Copy, nodes_of}
use Rattle.fx_inequalities.specs.NodeConditions.{no_input}
use Rattle.fx_inequalities.specs.Accepted.{start_of}
use Rattle.fx_inequalities.specs.Certificate.{Certificate, NodeLine, Template, StartBox}
use Rattle.fx_inequalities.specs.LawfulCertificate.{unit_vector}
use Rattle.fx_lowering.specs.OfFunction.{program_for}
use Rattle.fx_outward.specs.Grid.{lowest_dyadic}
use Rattle.fx_plan_laws.specs.Powers.{magnitude}
use Rattle.fx_plan_laws.specs.Calm.{Numbers, numbers_of}
use Rattle.fx_plan_laws.specs.Bounds.{Bound, no_bound, units_up, state_bound, input_bound, const_bound, sum_bound, product_bound}

-- ---- the bounds
-- of a node after those of the bounds bs; quotients have none
abbrev pub node_bound : Numbers → List function.Input → List Bound → Node → Bound
node_bound c is bs (Input k) = input_bound c.f (at no_input is k)
node_bound c is bs (State k) = state_bound c
node_bound c is bs (Const x) = const_bound c.f x
node_bound c is bs (Neg a) = at no_bound bs a
node_bound c is bs (Add a b) = sum_bound (at no_bound bs a) (at no_bound bs b)
node_bound c is bs (Sub a b) = sum_bound (at no_bound bs a) (at no_bound bs b)
node_bound c is bs (Mul a b) = product_bound c.f (at no_bound bs a) (at no_bound bs b)
node_bound c is bs (Div a b) = no_bound
node_bound c is bs (Copy a) = at no_bound bs a

-- of these nodes after those of the bounds bs
abbrev pub bounds_after : Numbers → List function.Input → List Node → List Bound → List Bound
bounds_after c is [] bs = bs
bounds_after c is (node ∷ nodes) bs = bounds_after c is nodes (bs ++ node_bound c is bs node ∷ [])

-- of all nodes of a function
abbrev pub bounds_of : Numbers → Function → List Bound
bounds_of c fn = bounds_after c fn.inputs (nodes_of fn) []

-- ---- the program
-- all points are f, so that products alone are shifted, and rounded as is wanted. Quotients have no code
abbrev pub calm_code : Round → Function → ℕ → Node → Code
calm_code r fn f (Input k) = machine.Input k (pos f)
calm_code r fn f (State k) = machine.State k (pos f) (floor (scaled (start_of fn k) (pos f)))
calm_code r fn f (Const x) = machine.Const (floor (scaled x (pos f))) (pos f)
calm_code r fn f (Neg a) = machine.Neg a
calm_code r fn f (Add a b) = machine.Add a b (pos 0) (pos 0)
calm_code r fn f (Sub a b) = machine.Sub a b (pos 0) (pos 0)
calm_code r fn f (Mul a b) = machine.Mul r a b f
calm_code r fn f (Div a b) = machine.Div a b 0
calm_code r fn f (Copy a) = machine.Copy machine.Floor a (pos 0)

abbrev pub calm_program : ℕ → Round → Function → Program
calm_program n r fn = let c = numbers_of n fn in program_for n r fn (map (calm_code r fn c.f) (nodes_of fn))

-- ---- the certificate
-- from -r to r units, each end in its one spelling
abbrev pub units : ℕ → ℕ → Interval
units f r = record { lo = lowest_dyadic (neg_ℤ (pos r)) f; hi = lowest_dyadic (pos r) f }

abbrev pub calm_line : ℕ → Bound → NodeLine
calm_line f b = record { range = units f b.r; error = units f b.e; form = None }

-- the start itself is at most 2^q, and its word's difference less than a unit
abbrev pub calm_start : ℕ → function.State → StartBox
calm_start f s = record { range = units f (units_up f (magnitude s.start)); error = units f 1 }

-- unit templates from i on, k of them, of so many states and with one bound
abbrev pub unit_templates : ℕ → Interval → ℕ → ℕ → List Template
unit_templates states bound i zero = []
unit_templates states bound i (suc k) =
    record { coefs = unit_vector states i; bound = bound; shares = [] } ∷ unit_templates states bound (i + 1) k

-- without steps, forms and shares, and the same however the program rounds: what is lost to the nearest lies within the
-- unit down
abbrev pub calm_certificate : ℕ → Function → Certificate
calm_certificate n fn = let c = numbers_of n fn in let b = state_bound c in let k = length fn.states in record {
  inputs = length fn.inputs;
  states = k;
  steps = [];
  starts = map (calm_start c.f) fn.states;
  templates = unit_templates k (units c.f b.r) 0 k;
  error_templates = unit_templates k (units c.f b.e) 0 k;
  lines = map (calm_line c.f) (bounds_of c fn);
}
