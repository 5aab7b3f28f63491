-- What each function meets that a source can spell.
use Rattle.std.specs.Prelude.{pos, ◌≤◌, length, All, IfSome}
use Rattle.fx_rational.specs.Rational.{whole, AtMost}
use Rattle.fx_model.specs.Tree.{Tree}
use Rattle.fx_model.specs.Function.{Function, Demand, outputs}
use Rattle.fx_model.specs.Names.{IsName}
use Rattle.fx_model.specs.Nodes.{nodes_of}
use Rattle.fx_model.specs.Paths.{height}
use Rattle.fx_model.specs.Rows.{AreInputs}
use Rattle.fx_model.specs.Limits.{input_limit, state_limit, output_limit, temp_limit, node_limit, height_limit}
use Rattle.fx_model.specs.Valid.{IsValid}

-- a tree of at most this height
abbrev pub IsLow : Tree → Type 0
IsLow e = height e ≤ height_limit

-- a demanded error isn't negative, and of two ends the lower one isn't above the upper
pub record IsDemand (d : Demand) : Type 0 where
  pub err : IfSome d.err (λ e. AtMost (whole (pos 0)) e)
  pub ends : IfSome d.lo (λ lo. IfSome d.hi (λ hi. AtMost lo hi))

-- at least one input and output, and at most so many of each
pub record HasLawfulSizes (f : Function) : Type 0 where
  pub some_input : 1 ≤ length f.inputs
  pub inputs : length f.inputs ≤ input_limit
  pub states : length f.states ≤ state_limit
  pub some_output : 1 ≤ outputs f
  pub outputs : outputs f ≤ output_limit
  pub temps : length f.temps ≤ temp_limit
  pub nodes : length (nodes_of f) ≤ node_limit

-- all of it
pub record IsLawfulFunction (f : Function) : Type 0 where
  pub valid : IsValid f
  pub name : IsName f.name
  pub sizes : HasLawfulSizes f
  pub inputs : AreInputs f.inputs
  pub demands : All IsDemand f.demands
  pub low_temps : All (λ t. IsLow t.tree) f.temps
  pub low_results : All IsLow f.results
