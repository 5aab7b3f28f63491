-- One node more at the end of the list.
use Rattle.std.proofs.Common.{◌≡◌, ap, sym, ◌∙◌, List, [], ◌∷◌, ◌++◌}
use Rattle.std.proofs.lemmas.List.{map-append, append_assoc}
use Rattle.fx_model.specs.Nodes as model
use Rattle.fx_flat.specs.declared.node.Node.{Node}
use Rattle.fx_flat.specs.NodeOf.{node_of, nodes_in}

pub pushed_nodes : (list : List Node) (node : Node) (before made more : List model.Node) → nodes_in list ≡ before ++ made →
    more ≡ made ++ node_of node ∷ [] → nodes_in (list ++ node ∷ []) ≡ before ++ more
pushed_nodes list node before made more so_far is =
    map-append node_of list (node ∷ [])
    ∙ (ap (λ (ns : List model.Node). ns ++ node_of node ∷ []) so_far
    ∙ (append_assoc before made (node_of node ∷ []) ∙ ap (λ (ns : List model.Node). before ++ ns) (sym is)))
