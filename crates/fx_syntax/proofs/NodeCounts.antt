-- How many nodes a function has.
use Rattle.std.proofs.Common.{◌≡◌, ℕ, ◌+◌, List, [], ◌∷◌, ◌++◌, length, arith, length-append}
use Rattle.fx_model.specs.Tree.{Tree}
use Rattle.fx_model.specs.Function.{Function, Temp}
use Rattle.fx_model.specs.Nodes.{Node, flat, inputs_from, states_from, copies_of, nodes_after, nodes_of}
use Rattle.fx_model.proofs.Counted.{copies_length, inputs_length, states_length}
use Rattle.fx_syntax.proofs.Operands.{flat_size}
use Rattle.fx_syntax.proofs.Bodies.{sizes, tree_sizes}

after_length : (i : ℕ) (ts : List Temp) (es : List Tree) (temps roots : List ℕ) (ns : List Node) →
    length (nodes_after i ts es temps roots ns) ≡ length ns + sizes ts + tree_sizes es + length roots + length es
after_length i [] [] temps roots ns =
    let a = length-append ns (copies_of roots) in let b = copies_length roots in omega arith
after_length i [] (e ∷ es) temps roots ns =
    let x = flat i temps (length ns) e in
    let h = after_length i [] es temps (roots ++ x.root ∷ []) (ns ++ x.list) in
    let a = length-append ns x.list in
    let b = length-append roots (x.root ∷ []) in
    let c = flat_size i temps (length ns) e in
    omega arith
after_length i (t ∷ ts) es temps roots ns =
    let x = flat i temps (length ns) t.tree in
    let h = after_length i ts es (temps ++ x.root ∷ []) roots (ns ++ x.list) in
    let a = length-append ns x.list in let c = flat_size i temps (length ns) t.tree in omega arith

pub nodes_length : (f : Function) →
    length (nodes_of f) ≡ length f.inputs + length f.states + sizes f.temps + tree_sizes f.results + length f.results
nodes_length f =
    let a =
    after_length (length f.inputs) f.temps f.results [] []
    (inputs_from 0 (length f.inputs) ++ states_from 0 (length f.states)) in
    let b = length-append (inputs_from 0 (length f.inputs)) (states_from 0 (length f.states)) in
    let c = inputs_length 0 (length f.inputs) in
    let d = states_length 0 (length f.states) in omega arith
