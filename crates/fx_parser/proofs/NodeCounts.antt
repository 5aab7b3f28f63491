-- How many nodes the list of operations has, with the copies of the results counted apart.
use Rattle.std.proofs.Common.{◌≡◌, ℕ, ◌+◌, List, [], ◌∷◌, length, refl, arith}
use Rattle.fx_model.specs.Tree.{Tree}
use Rattle.fx_model.specs.Function.{Function}
use Rattle.fx_model.specs.Counts.{tree_nodes, temp_nodes, result_nodes}
use Rattle.fx_model.specs.Nodes.{nodes_of}
use Rattle.fx_model.proofs.Counted.{node_count_is}

abbrev pub all_tree_nodes : List Tree → ℕ
all_tree_nodes [] = 0
all_tree_nodes (e ∷ es) = tree_nodes e + all_tree_nodes es

with_copies : (es : List Tree) → result_nodes es ≡ all_tree_nodes es + length es
with_copies [] = refl
with_copies (e ∷ es) = omega (arith, with_copies es)

pub all_nodes : (f : Function) →
    length (nodes_of f) ≡ length f.inputs + length f.states + temp_nodes f.temps + all_tree_nodes f.results +
    length f.results
all_nodes f = omega (arith, node_count_is f, with_copies f.results)
