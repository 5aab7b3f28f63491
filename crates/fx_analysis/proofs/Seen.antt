-- A turn of a walk over nodes as the code has them: what is seen of the list, and what is passed on.
use Rattle.std.proofs.Common.{◌≡◌, ℕ, ◌+◌, ◌<◌, List, [], ◌∷◌, ◌++◌, length, get_or, Result, Ok, Err, sym, ap, subst, ◌∙◌}
use Rattle.fx_model.specs.Nodes as model
use Rattle.fx_model.proofs.Lists.{seen_at}
use Rattle.fx_flat.specs.InPlace.{IsInPlace, AreInPlace}
use Rattle.fx_flat.specs.NodeOf.{node_of, nodes_in}
use Rattle.fx_flat.specs.declared.node.Node.{Node}
use Rattle.fx_flat.proofs.Ordered.{ordered_at}
use Rattle.fx_outward.specs.declared.fault.Why.{Why}
use Rattle.fx_analysis.specs.Fold.{parts_after}
use Rattle.fx_analysis.proofs.Turns.{IsWalked, walk_on, walk_stops}

-- node x of the list, number k, stands in its place, behind as many parts
pub stands_behind : {A : Type 0} (i s : ℕ) (list : List Node) (nodes : List model.Node) (k : ℕ) (x : Node)
    (xs ys : List A) → nodes_in list ≡ nodes → AreInPlace i s 0 nodes → k < length list → x ≡ get_or list k x →
    ys ≡ xs → length xs ≡ k → IsInPlace i s (length ys) (node_of x)
stands_behind i s list nodes k x xs ys same placed lt is passed count =
    let h = seen_at node_of list nodes k x same lt is in
    subst (λ (m : ℕ). IsInPlace i s m (node_of x)) (sym (ap length passed ∙ count))
    (subst (IsInPlace i s k) h.1 (ordered_at i s k nodes (node_of x) placed h.0))

-- what is made of the parts that are passed is made of those that are there
pub passed_on : {A : Type 0} (f : List A → model.Node → Result A Why) (node : model.Node) (xs ys : List A)
    (r : Result A Why) → ys ≡ xs → r ≡ f ys node → f xs node ≡ r
passed_on f node xs ys r passed made = sym (made ∙ ap (λ zs. f zs node) passed)

-- one more turn
pub seen_on : {A : Type 0} (f : List A → model.Node → Result A Why) (list : List Node) (nodes : List model.Node)
    (k : ℕ) (x : Node) (xs zs : List A) (part : A) → nodes_in list ≡ nodes → k < length list → x ≡ get_or list k x →
    zs ≡ xs ++ part ∷ [] → IsWalked f nodes k xs → f xs (node_of x) ≡ Ok part → IsWalked f nodes (k + 1) zs
seen_on f list nodes k x xs zs part same lt is pushed h made =
    let s = seen_at node_of list nodes k x same lt is in
    subst (IsWalked f nodes (k + 1)) (sym pushed) (walk_on f nodes k xs (node_of x) part s.0 s.1 h made)

-- the turn at which a node has no part
pub seen_stop : {A : Type 0} (f : List A → model.Node → Result A Why) (list : List Node) (nodes : List model.Node)
    (k : ℕ) (x : Node) (xs : List A) (why : Why) → nodes_in list ≡ nodes → k < length list → x ≡ get_or list k x →
    IsWalked f nodes k xs → f xs (node_of x) ≡ Err why →
    parts_after f nodes [] ≡ Err (record { node = k; why = why })
seen_stop f list nodes k x xs why same lt is h made =
    let s = seen_at node_of list nodes k x same lt is in walk_stops f nodes k xs (node_of x) why s.0 s.1 h made
