-- A function's nodes as the code weighs them, one after the other: node i is x, ws are the weights so far, and vs are
-- the same as they are handed on.
use Rattle.std.proofs.Common.{◌≡◌, ◌∙◌, ℕ, ◌+◌, ◌<◌, true, false, List, [], ◌∷◌, ◌++◌, length, get_or, Some, ap, sym, subst}
use Rattle.std.proofs.lemmas.List.{length-map, map_push}
use Rattle.fx_model.specs.Function.{Function}
use Rattle.fx_model.specs.Nodes.{nodes_of}
use Rattle.fx_model.specs.Valid.{IsValid}
use Rattle.fx_model.proofs.Lists.{seen_at}
use Rattle.fx_model.proofs.Widths.{IsWordWidth}
use Rattle.fx_flat.specs.InPlace.{IsInPlace}
use Rattle.fx_flat.specs.NodeOf.{node_of, nodes_in}
use Rattle.fx_flat.specs.declared.node.Node.{Node}
use Rattle.fx_flat.proofs.Ordered.{node_list, ordered_at}
use Rattle.fx_weight.specs.Weights.{weights_of, node_weight, is_modest, first_immodest}
use Rattle.fx_weight.specs.WeightOf.{weight_of, weights_in}
use Rattle.fx_weight.specs.declared.weight.Weight.{Weight}
use Rattle.fx_weight.proofs.Turns.{IsWeighed, turn_on, walk_stops}

module _ (n : ℕ) (fn : Function) (nodes : List Node) (ws vs : List Weight) (i : ℕ) (x : Node) (valid : IsValid fn)
    (same : nodes_in nodes ≡ nodes_of fn) (lt : i < length nodes) (is : x ≡ get_or nodes i x) (handed : vs ≡ ws)
    (walked : IsWeighed n fn.inputs (nodes_of fn) (weights_of n fn) i (weights_in ws)) where
  here : (i < length (nodes_of fn)) × (get_or (nodes_of fn) i (node_of x) ≡ node_of x)
  here = seen_at node_of nodes (nodes_of fn) i x same lt is

  -- it is in its place behind so many weights
  pub in_place : IsInPlace (length fn.inputs) (length fn.states) (length vs) (node_of x)
  in_place =
      let own = subst (IsInPlace (length fn.inputs) (length fn.states) i) here.1
      (ordered_at (length fn.inputs) (length fn.states) i (nodes_of fn) (node_of x) (node_list fn valid).ordered
      here.0) in
      let long : length vs ≡ i = ap length handed ∙ sym (length-map ws weight_of) ∙ walked.count in
      subst (λ (k : ℕ). IsInPlace (length fn.inputs) (length fn.states) k (node_of x)) (sym long) own

  -- a node that isn't modest is the first
  pub stops : is_modest (node_of x) (node_weight n fn.inputs (weights_in vs) (node_of x)) ≡ false →
      first_immodest 0 (nodes_of fn) (weights_of n fn) ≡ Some i
  stops m =
      walk_stops n fn.inputs (nodes_of fn) (weights_of n fn) i (weights_in ws) (node_of x) here.0 here.1 walked
      (subst (λ (xs : List Weight). is_modest (node_of x) (node_weight n fn.inputs (weights_in xs) (node_of x)) ≡ false)
      handed m)

  -- behind its weight y all are walked up to the next node
  pub turned : (y : Weight) (all : List Weight) → IsWordWidth n → all ≡ ws ++ y ∷ [] →
      (weight_of y ≡ node_weight n fn.inputs (weights_in vs) (node_of x)) ×
      (is_modest (node_of x) (node_weight n fn.inputs (weights_in vs) (node_of x)) ≡ true) →
      IsWeighed n fn.inputs (nodes_of fn) (weights_of n fn) (i + 1) (weights_in all)
  turned y all width pushed made =
      let own = subst (λ (xs : List Weight). (weight_of y ≡ node_weight n fn.inputs (weights_in xs) (node_of x)) ×
      (is_modest (node_of x) (node_weight n fn.inputs (weights_in xs) (node_of x)) ≡ true)) handed made in
      subst (IsWeighed n fn.inputs (nodes_of fn) (weights_of n fn) (i + 1))
      (sym (ap weights_in pushed ∙ map_push weight_of ws y))
      (turn_on n fn.inputs (length fn.states) (nodes_of fn) (weights_of n fn) i (weights_in ws) (node_of x)
      (weight_of y) width here.0 here.1 walked (node_list fn valid).ordered own)
