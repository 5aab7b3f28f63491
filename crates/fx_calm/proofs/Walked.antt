-- A walk over the nodes of a function: what each turn keeps.
use Rattle.std.proofs.Common.{◌≡◌, ℕ, suc, ◌+◌, ◌<◌, List, [], ◌∷◌, ◌++◌, length, drop, get_or, sym, ap, ap₂, subst, ◌∙◌, arith, length-append, append_assoc}
use Rattle.std.specs.Prelude.{All}
use Rattle.std.proofs.Math.Seq.{drop-cons, get_or-append_seam}
use Rattle.std.proofs.lemmas.List.{append-nil, get_or_append_left}
use Rattle.fx_model.specs.Function as function
use Rattle.fx_model.specs.Nodes.{Node}
use Rattle.fx_plan_laws.specs.Calm.{Numbers}
use Rattle.fx_plan_laws.specs.Bounds.{Bound, no_bound}
use Rattle.fx_plan_laws.specs.CalmPlan.{node_bound, bounds_after}
use Rattle.fx_calm.specs.BoundOf.{IsShort}

-- the bounds in front stay
front_bounds : (c : Numbers) (is : List function.Input) (nodes : List Node) (bs : List Bound) →
    (rest : List Bound) × (bounds_after c is nodes bs ≡ bs ++ rest)
front_bounds c is [] bs = ([], sym (append-nil bs))
front_bounds c is (node ∷ nodes) bs =
    let x = node_bound c is bs node in let f = front_bounds c is nodes (bs ++ x ∷ []) in
    (x ∷ f.0, f.1 ∙ append_assoc bs (x ∷ []) f.0)

-- of all bounds those of the first k nodes are there
pub record IsWalked (c : Numbers) (is : List function.Input) (nodes : List Node) (all : List Bound) (k : ℕ)
    (bs : List Bound) : Type 0 where
  pub count : length bs ≡ k
  pub rest : bounds_after c is (drop k nodes) bs ≡ all

pub front_short : (c : Numbers) (is : List function.Input) (nodes : List Node) (all : List Bound) (k : ℕ)
    (bs : List Bound) → IsWalked c is nodes all k bs → All IsShort all → All IsShort bs
front_short c is nodes all k bs h short a d lt =
    let f = front_bounds c is (drop k nodes) bs in
    let whole : all ≡ bs ++ f.0 = sym h.rest ∙ f.1 in
    let l = length-append bs f.0 in
    subst IsShort (get_or_append_left bs f.0 d a lt) (subst (All IsShort) whole short a d (omega (arith, l, lt)))

-- the next node and its bound
module _ (c : Numbers) (is : List function.Input) (nodes : List Node) (all : List Bound) (k : ℕ) (bs : List Bound)
    (node : Node) (lt : k < length nodes) (same : get_or nodes k node ≡ node) (h : IsWalked c is nodes all k bs) where
  split : drop k nodes ≡ node ∷ drop (k + 1) nodes
  split =
      let next : suc k ≡ k + 1 = omega arith in
      drop-cons nodes k node lt ∙ ap₂ (λ (y : Node) (m : ℕ). y ∷ drop m nodes) same next

  more : bounds_after c is (drop (k + 1) nodes) (bs ++ node_bound c is bs node ∷ []) ≡ all
  more = ap (λ (ns : List Node). bounds_after c is ns bs) (sym split) ∙ h.rest

  pub next_short : All IsShort all → IsShort (node_bound c is bs node)
  next_short short =
      let x = node_bound c is bs node in
      let f = front_bounds c is (drop (k + 1) nodes) (bs ++ node_bound c is bs node ∷ []) in
      let whole : all ≡ bs ++ node_bound c is bs node ∷ f.0 = sym more ∙ f.1
      ∙ append_assoc bs (node_bound c is bs node ∷ []) f.0 in
      let l = length-append bs (node_bound c is bs node ∷ f.0) in
      subst IsShort (get_or-append_seam bs x f.0 no_bound)
      (subst (All IsShort) whole short (length bs) no_bound (omega (arith, l)))

  pub walk_on : (y : Bound) → y ≡ node_bound c is bs node → IsWalked c is nodes all (k + 1) (bs ++ y ∷ [])
  walk_on y e = subst (λ (x : Bound). IsWalked c is nodes all (k + 1) (bs ++ x ∷ [])) (sym e) (record {
    count = let l = length-append bs (node_bound c is bs node ∷ []) in let n = h.count in omega (arith, l, n);
    rest = more;
  })
