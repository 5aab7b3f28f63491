-- What contracts see of a node.
use Rattle.std.specs.Prelude.{List, map}
use Rattle.fx_model.specs.Nodes as model
use Rattle.fx_flat.specs.declared.node.Node.{Node}
use Rattle.fx_flat.specs.declared.node.Node.TheVariants.{Input, State, Const, Neg, Add, Sub, Mul, Div, Copy}

-- a node of the code is one of the definition
abbrev pub node_of : Node → model.Node
node_of (Input k) = model.Input k
node_of (State k) = model.State k
node_of (Const c) = model.Const c
node_of (Neg a) = model.Neg a
node_of (Add a b) = model.Add a b
node_of (Sub a b) = model.Sub a b
node_of (Mul a b) = model.Mul a b
node_of (Div a b) = model.Div a b
node_of (Copy a) = model.Copy a

-- so is each of a list
abbrev pub nodes_in : List Node → List model.Node
nodes_in list = map node_of list
