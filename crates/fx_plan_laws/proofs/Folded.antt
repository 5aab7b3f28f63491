-- The bounds of a node list, node by node: each is that of its node after all bounds.
use Rattle.std.proofs.Common.{◌≡◌, ℕ, List, [], ◌++◌, length, refl, sym, ap₂}
use Rattle.std.proofs.lemmas.List.{get_or_append_left}
use Rattle.fx_model.specs.Function as function
use Rattle.fx_model.specs.Nodes.{Node, Input, State, Const, Neg, Add, Sub, Mul, Div, Copy}
use Rattle.fx_flat.specs.InPlace.{IsInPlace, AreInPlace}
use Rattle.fx_flat.proofs.Pairs.{IsFolded, AreFolded, folded}
use Rattle.fx_plan_laws.specs.Calm.{Numbers}
use Rattle.fx_plan_laws.specs.Bounds.{Bound, no_bound, sum_bound, product_bound}
use Rattle.fx_plan_laws.specs.CalmPlan.{node_bound, bounds_after}

-- what holds of node k and its bound x among the bounds ws of all nodes
abbrev pub IsNodeBound : ℕ → Numbers → List function.Input → List Bound → ℕ → Node → Bound → Type 0
IsNodeBound s c inputs ws = IsFolded no_bound (node_bound c inputs) (length inputs) s ws

-- bounds behind the operands change nothing
bound_kept : (s : ℕ) (c : Numbers) (inputs : List function.Input) (ws more : List Bound) (node : Node) →
    IsInPlace (length inputs) s (length ws) node → node_bound c inputs ws node ≡ node_bound c inputs (ws ++ more) node
bound_kept s c inputs ws more (Input k) h = refl
bound_kept s c inputs ws more (State k) h = refl
bound_kept s c inputs ws more (Const x) h = refl
bound_kept s c inputs ws more (Neg a) h = sym (get_or_append_left ws more no_bound a h.1)
bound_kept s c inputs ws more (Add a b) h =
    ap₂ sum_bound (sym (get_or_append_left ws more no_bound a h.1)) (sym (get_or_append_left ws more no_bound b h.2))
bound_kept s c inputs ws more (Sub a b) h =
    ap₂ sum_bound (sym (get_or_append_left ws more no_bound a h.1)) (sym (get_or_append_left ws more no_bound b h.2))
bound_kept s c inputs ws more (Mul a b) h =
    ap₂ (product_bound c.f) (sym (get_or_append_left ws more no_bound a h.1))
    (sym (get_or_append_left ws more no_bound b h.2))
bound_kept s c inputs ws more (Div a b) h = refl
bound_kept s c inputs ws more (Copy a) h = sym (get_or_append_left ws more no_bound a h.1)

pub all_bounded : (c : Numbers) (inputs : List function.Input) (s : ℕ) (nodes : List Node) →
    AreInPlace (length inputs) s 0 nodes →
    AreFolded no_bound (node_bound c inputs) (length inputs) s nodes [] (bounds_after c inputs nodes [])
all_bounded c inputs s nodes h =
    folded no_bound (node_bound c inputs) (bounds_after c inputs) (length inputs) s
    (record { ends = λ ws. refl; goes_on = λ node nodes ws. refl }) (bound_kept s c inputs) nodes [] h
