-- The bounds of the node list of linear results: each result's copy has its tree's, and all are limited.
use Rattle.std.proofs.Common.{◌≡◌, ℕ, zero, suc, ◌+◌, ◌^◌, ◌<◌, ◌≤◌, List, [], ◌∷◌, ◌++◌, length, map, refl, sym, ap, subst, ◌∙◌, arith, length-append, append_assoc}
use Rattle.std.specs.Prelude.{All}
use Rattle.std.proofs.lemmas.List.{get_or_append_left, append-nil, get_or-append-add}
use Rattle.std.proofs.lemmas.List.Elements.{All-nil, All-cons, All-append}
use Rattle.std.proofs.Math.Seq.{get_or-append_seam}
use Rattle.fx_model.specs.Tree as tree
use Rattle.fx_model.specs.Tree.{Tree, at}
use Rattle.fx_model.specs.Function as function
use Rattle.fx_model.specs.Nodes.{Node, Const, Neg, Add, Sub, Mul, Flat, flat, inputs_from, states_from, copies_of, nodes_after}
use Rattle.fx_model.specs.Valid.{RefersBelow, AllReferBelow}
use Rattle.fx_inequalities.specs.NodeConditions.{no_input}
use Rattle.fx_plan_laws.specs.Bounds.{Bound, no_bound, state_bound, input_bound, const_bound, sum_bound, product_bound}
use Rattle.fx_plan_laws.specs.Calm.{Numbers}
use Rattle.fx_plan_laws.proofs.TreeBound.{tree_bound}
use Rattle.fx_plan_laws.specs.CalmPlan.{node_bound, bounds_after}

-- ---- one list behind the other
pub after_append : (c : Numbers) (is : List function.Input) (xs ys : List Node) (bs : List Bound) →
    bounds_after c is (xs ++ ys) bs ≡ bounds_after c is ys (bounds_after c is xs bs)
after_append c is [] ys bs = refl
after_append c is (x ∷ xs) ys bs = after_append c is xs ys (bs ++ node_bound c is bs x ∷ [])

-- ---- limited bounds: values are at most 2^m, so that no word overflows and no mantissa is too long
pub record IsLimited (c : Numbers) (b : Bound) : Type 0 where
  pub r : b.r ≤ 2 ^ (c.m + c.f)
  pub e : b.e ≤ 2 ^ (c.m + c.f)

-- so are those of a tree and of all below it
abbrev pub AreLimited : Numbers → List function.Input → Tree → Type 0
AreLimited c is (tree.Literal x) = IsLimited c (const_bound c.f x)
AreLimited c is (tree.Input k) = Unit {0}
AreLimited c is (tree.State k) = Unit {0}
AreLimited c is (tree.Temp k) = ⊥
AreLimited c is (tree.Negation a) = IsLimited c (tree_bound c is a) × AreLimited c is a
AreLimited c is (tree.Sum a b) =
    IsLimited c (sum_bound (tree_bound c is a) (tree_bound c is b)) × AreLimited c is a × AreLimited c is b
AreLimited c is (tree.Difference a b) =
    IsLimited c (sum_bound (tree_bound c is a) (tree_bound c is b)) × AreLimited c is a × AreLimited c is b
AreLimited c is (tree.Product a b) =
    IsLimited c (product_bound c.f (tree_bound c is a) (tree_bound c is b)) × AreLimited c is a × AreLimited c is b
AreLimited c is (tree.Quotient a b) = ⊥

-- ---- inputs and states at the front
pub record HasVariables (c : Numbers) (is : List function.Input) (i s : ℕ) (bs : List Bound) : Type 0 where
  pub long : i + s ≤ length bs
  pub inputs : (k : ℕ) → k < i → at no_bound bs k ≡ input_bound c.f (at no_input is k)
  pub states : (k : ℕ) → k < s → at no_bound bs (i + k) ≡ state_bound c

pub variables_more : {c : Numbers} {is : List function.Input} {i s : ℕ} (bs more : List Bound) →
    HasVariables c is i s bs → HasVariables c is i s (bs ++ more)
variables_more bs more h = record {
  long = let l = length-append bs more in let n = h.long in omega (arith, l, n);
  inputs = λ k lt. get_or_append_left bs more no_bound k (let n = h.long in omega (arith, lt, n)) ∙ h.inputs k lt;
  states = λ k lt. get_or_append_left bs more no_bound _ (let n = h.long in omega (arith, lt, n)) ∙ h.states k lt;
}

-- ---- a tree's nodes
pub record IsBuilt (c : Numbers) (is : List function.Input) (x : Flat) (b : Bound) (bs : List Bound) : Type 0 where
  pub more : List Bound
  pub grown : bounds_after c is x.list bs ≡ bs ++ more
  pub count : length more ≡ length x.list
  pub below : x.root < length (bs ++ more)
  pub root : at no_bound (bs ++ more) x.root ≡ b
  pub limited : All (IsLimited c) more

-- one node behind a list
pushed : (c : Numbers) (is : List function.Input) (list : List Node) (node : Node) (bs more : List Bound) (b : Bound)
    (n : ℕ) → n ≡ length bs → bounds_after c is list bs ≡ bs ++ more → length more ≡ length list →
    All (IsLimited c) more →
    node_bound c is (bs ++ more) node ≡ b → IsLimited c b →
    IsBuilt c is (record { list = list ++ node ∷ []; root = n + length list }) b bs
pushed c is list node bs more b n long h count limited value fine = record {
  more = more ++ b ∷ [];
  grown = after_append c is list (node ∷ []) bs ∙ ap (λ (zs : List Bound). zs ++ node_bound c is zs node ∷ []) h
      ∙ ap (λ (v : Bound). (bs ++ more) ++ v ∷ []) value ∙ append_assoc bs more (b ∷ []);
  count = let a = length-append more (b ∷ []) in let d = length-append list (node ∷ []) in omega (arith, a, d, count);
  below =
      let a = length-append bs (more ++ b ∷ []) in
      let d = length-append more (b ∷ []) in
      omega (arith, a, d, long, count);
  root = ap (λ (zs : List Bound). at no_bound zs (n + length list)) (sym (append_assoc bs more (b ∷ [])))
      ∙ ap (λ (k : ℕ). at no_bound ((bs ++ more) ++ b ∷ []) k) (let a = length-append bs more in
      omega (arith, a, long, count)) ∙ get_or-append_seam (bs ++ more) b [] no_bound;
  limited = All-append (IsLimited c) more (b ∷ []) limited (All-cons (IsLimited c) b [] fine (All-nil (IsLimited c)));
}

-- an operation of two trees
joined : (c : Numbers) (is : List function.Input) (op : ℕ → ℕ → Node) (f : Bound → Bound → Bound) →
    ((zs : List Bound) (a b : ℕ) → node_bound c is zs (op a b) ≡ f (at no_bound zs a) (at no_bound zs b)) →
    (x y : Flat) (bs : List Bound) (a b : Bound) (n : ℕ) → n ≡ length bs → (hx : IsBuilt c is x a bs) →
    IsBuilt c is y b (bs ++ hx.more) → IsLimited c (f a b) →
    IsBuilt c is (record { list = x.list ++ y.list ++ op x.root y.root ∷ []; root = n + length x.list + length y.list })
    (f a b) bs
joined c is op f value x y bs a b n long hx hy fine =
    let list = x.list ++ y.list in let more = hx.more ++ hy.more in
    let l = length-append x.list y.list in let d = length-append hx.more hy.more in let p = hx.count in
    let q = hy.count in
    let all : bounds_after c is list bs ≡ bs ++ more = after_append c is x.list y.list bs
    ∙ ap (bounds_after c is y.list) hx.grown ∙ hy.grown ∙ append_assoc bs hx.more hy.more in
    let left : at no_bound (bs ++ more) x.root ≡ a =
    ap (λ (zs : List Bound). at no_bound zs x.root) (sym (append_assoc bs hx.more hy.more))
    ∙ get_or_append_left (bs ++ hx.more) hy.more no_bound x.root hx.below ∙ hx.root in
    let right : at no_bound (bs ++ more) y.root ≡ b =
    ap (λ (zs : List Bound). at no_bound zs y.root) (sym (append_assoc bs hx.more hy.more)) ∙ hy.root in
    let built =
    pushed c is list (op x.root y.root) bs more (f a b) n long all (omega (arith, l, d, p, q))
    (All-append (IsLimited c) hx.more hy.more hx.limited hy.limited)
    (value (bs ++ more) x.root y.root ∙ (λ i. f (left i) (right i))) fine in
    let place : n + length list ≡ n + length x.list + length y.list = omega (arith, l) in
    subst (λ (k : ℕ). IsBuilt c is (record { list = list ++ op x.root y.root ∷ []; root = k }) (f a b) bs) place built

module _ (c : Numbers) (is : List function.Input) (i s : ℕ) where
  bare : (bs : List Bound) (k : ℕ) (b : Bound) → k < length bs → at no_bound bs k ≡ b →
      IsBuilt c is (record { list = []; root = k }) b bs
  bare bs k b lt e = record {
    more = [];
    grown = sym (append-nil bs);
    count = refl;
    below = let a = append-nil bs in subst (λ (zs : List Bound). k < length zs) (sym a) lt;
    root = ap (λ (zs : List Bound). at no_bound zs k) (append-nil bs) ∙ e;
    limited = All-nil (IsLimited c);
  }

  -- the second tree is built behind the first
  both_built : {n : ℕ} {x y : Flat} {bs : List Bound} {a b : Bound} (op : ℕ → ℕ → Node) (f : Bound → Bound → Bound) →
      ((zs : List Bound) (a b : ℕ) → node_bound c is zs (op a b) ≡ f (at no_bound zs a) (at no_bound zs b)) →
      n ≡ length bs → HasVariables c is i s bs → IsBuilt c is x a bs →
      ((zs : List Bound) → n + length x.list ≡ length zs → HasVariables c is i s zs → IsBuilt c is y b zs) →
      IsLimited c (f a b) →
      IsBuilt c is (record {
        list = x.list ++ y.list ++ op x.root y.root ∷ [];
        root = n + length x.list + length y.list;
      }) (f a b) bs
  both_built {n} {x} {y} {bs} {a} {b} op f value e v h more l =
      joined c is op f value x y bs a b n e h
      (more (bs ++ h.more) (let d = length-append bs h.more in let p = h.count in omega (arith, d, p, e))
      (variables_more bs h.more v)) l

  pub built : (n : ℕ) (t : Tree) (bs : List Bound) → n ≡ length bs → HasVariables c is i s bs → RefersBelow i s 0 t →
      AreLimited c is t → IsBuilt c is (flat i [] n t) (tree_bound c is t) bs
  built n (tree.Literal x) bs e v r l =
      let h =
      pushed c is [] (Const x) bs [] (const_bound c.f x) n e (sym (append-nil bs)) refl
      (All-nil (IsLimited c)) refl l in
      subst (λ (k : ℕ). IsBuilt c is (record { list = Const x ∷ []; root = k }) (const_bound c.f x) bs) (omega arith) h
  built n (tree.Input k) bs e v r l =
      bare bs k (input_bound c.f (at no_input is k)) (let g = v.long in omega (arith, r, g)) (v.inputs k r)
  built n (tree.State k) bs e v r l =
      bare bs (i + k) (state_bound c) (let g = v.long in omega (arith, r, g)) (v.states k r)
  built n (tree.Temp k) bs e v r l = absurd l
  built n (tree.Negation a) bs e v r l =
      let h = built n a bs e v r l.1 in
      pushed c is (flat i [] n a).list (Neg (flat i [] n a).root) bs h.more
      (tree_bound c is a) n e h.grown h.count h.limited h.root l.0
  built n (tree.Sum a b) bs e v r l =
      both_built Add sum_bound (λ zs p q. refl) e v (built n a bs e v r.0 l.1)
      (λ zs d w. built (n + length (flat i [] n a).list) b zs d w r.1 l.2) l.0
  built n (tree.Difference a b) bs e v r l =
      both_built Sub sum_bound (λ zs p q. refl) e v (built n a bs e v r.0 l.1)
      (λ zs d w. built (n + length (flat i [] n a).list) b zs d w r.1 l.2) l.0
  built n (tree.Product a b) bs e v r l =
      both_built Mul (product_bound c.f) (λ zs p q. refl) e v (built n a bs e v r.0 l.1)
      (λ zs d w. built (n + length (flat i [] n a).list) b zs d w r.1 l.2) l.0
  built n (tree.Quotient a b) bs e v r l = absurd l

  -- ---- the results and their copies
  -- each root has such a bound
  abbrev pub AreAt : List Bound → List ℕ → List Bound → Type 0
  AreAt bs [] [] = Unit {0}
  AreAt bs (k ∷ roots) (b ∷ done) = ((k < length bs) × (at no_bound bs k ≡ b)) × AreAt bs roots done
  AreAt bs [] (b ∷ done) = ⊥
  AreAt bs (k ∷ roots) [] = ⊥

  at_more : (bs more : List Bound) (roots : List ℕ) (done : List Bound) → AreAt bs roots done →
      AreAt (bs ++ more) roots done
  at_more bs more [] [] h = tt
  at_more bs more (k ∷ roots) (b ∷ done) h = (
    (
      let l = length-append bs more in let p = h.0.0 in
          omega (arith, l, p),
      get_or_append_left bs more no_bound k h.0.0 ∙ h.0.1,
    ),
    at_more bs more roots done h.1,
  )
  at_more bs more [] (b ∷ done) h = absurd h
  at_more bs more (k ∷ roots) [] h = absurd h

  at_push : (bs : List Bound) (roots : List ℕ) (done : List Bound) (k : ℕ) (b : Bound) → AreAt bs roots done →
      k < length bs → at no_bound bs k ≡ b → AreAt bs (roots ++ k ∷ []) (done ++ b ∷ [])
  at_push bs [] [] k b h lt e = ((lt, e), tt)
  at_push bs (j ∷ roots) (d ∷ done) k b h lt e = (h.0, at_push bs roots done k b h.1 lt e)
  at_push bs [] (d ∷ done) k b h lt e = absurd h
  at_push bs (j ∷ roots) [] k b h lt e = absurd h

  copied : (bs front : List Bound) (roots : List ℕ) (done : List Bound) → AreAt bs roots done →
      bounds_after c is (copies_of roots) (bs ++ front) ≡ (bs ++ front) ++ done
  copied bs front [] [] h = sym (append-nil (bs ++ front))
  copied bs front (k ∷ roots) (b ∷ done) h =
      let value : at no_bound (bs ++ front) k ≡ b = get_or_append_left bs front no_bound k h.0.0 ∙ h.0.1 in
      ap (λ (v : Bound). bounds_after c is (copies_of roots) ((bs ++ front) ++ v ∷ [])) value
      ∙ ap (bounds_after c is (copies_of roots)) (append_assoc bs front (b ∷ []))
      ∙ copied bs (front ++ b ∷ []) roots done h.1
      ∙ ap (λ (zs : List Bound). zs ++ done) (sym (append_assoc bs front (b ∷ [])))
      ∙ append_assoc (bs ++ front) (b ∷ []) done
  copied bs front [] (b ∷ done) h = absurd h
  copied bs front (k ∷ roots) [] h = absurd h

  -- each tree is limited
  abbrev pub EachLimited : List Tree → Type 0
  EachLimited [] = Unit {0}
  EachLimited (t ∷ ts) = AreLimited c is t × EachLimited ts

  -- all bounds: those of the nodes before the copies, which are limited, and those of the trees
  pub record HasAllBounds (nodes : List Node) (bs done : List Bound) (ts : List Tree) : Type 0 where
    pub front : List Bound
    pub grown : bounds_after c is nodes [] ≡ (bs ++ front) ++ (done ++ map (tree_bound c is) ts)
    pub limited : All (IsLimited c) front

  pub results_built : (ts : List Tree) (roots : List ℕ) (ns : List Node) (bs done : List Bound) →
      bounds_after c is ns [] ≡ bs → length ns ≡ length bs → HasVariables c is i s bs → AllReferBelow i s 0 ts →
      EachLimited ts → AreAt bs roots done →
      HasAllBounds (nodes_after i [] ts [] roots ns) bs done ts
  results_built [] roots ns bs done h n v r l a = record {
    front = [];
    grown = after_append c is ns (copies_of roots) []
        ∙ ap (bounds_after c is (copies_of roots)) (h ∙ sym (append-nil bs)) ∙ copied bs [] roots done a
        ∙ ap (λ (zs : List Bound). (bs ++ []) ++ zs) (sym (append-nil done));
    limited = All-nil (IsLimited c);
  }
  results_built (t ∷ ts) roots ns bs done h n v r l a =
      let x = flat i [] (length ns) t in let b = built (length ns) t bs n v r.0 l.0 in
      let next =
      results_built ts (roots ++ x.root ∷ []) (ns ++ x.list) (bs ++ b.more) (done ++ tree_bound c is t ∷ [])
      (after_append c is ns x.list [] ∙ ap (bounds_after c is x.list) h ∙ b.grown)
      (let p = length-append ns x.list in let q = length-append bs b.more in let k = b.count in
      omega (arith, p, q, k, n)) (variables_more bs b.more v) r.1 l.1
      (at_push (bs ++ b.more) roots done x.root (tree_bound c is t) (at_more bs b.more roots done a) b.below b.root) in
      record {
        front = b.more ++ next.front;
        grown =
            next.grown ∙ (λ j. append_assoc bs b.more next.front j
            ++ append_assoc done (tree_bound c is t ∷ []) (map (tree_bound c is) ts) j);
        limited = All-append (IsLimited c) b.more next.front b.limited next.limited;
      }

  -- ---- the first nodes
  -- m numbers of f, from k on
  abbrev pub bounds_from : (ℕ → Bound) → ℕ → ℕ → List Bound
  bounds_from f k zero = []
  bounds_from f k (suc m) = f k ∷ bounds_from f (k + 1) m

  from_length : (f : ℕ → Bound) (k m : ℕ) → length (bounds_from f k m) ≡ m
  from_length f k zero = refl
  from_length f k (suc m) = ap suc (from_length f (k + 1) m)

  from_at : (f : ℕ → Bound) (k m j : ℕ) → j < m → at no_bound (bounds_from f k m) j ≡ f (k + j)
  from_at f k zero j lt = absurd (omega (arith, lt))
  from_at f k (suc m) zero lt = ap f (omega arith)
  from_at f k (suc m) (suc j) lt = from_at f (k + 1) m j (omega (arith, lt)) ∙ ap f (omega arith)

  inputs_built : (k m : ℕ) (bs : List Bound) →
      bounds_after c is (inputs_from k m) bs ≡ bs ++ bounds_from (λ j. input_bound c.f (at no_input is j)) k m
  inputs_built k zero bs = sym (append-nil bs)
  inputs_built k (suc m) bs = inputs_built (k + 1) m (bs ++ input_bound c.f (at no_input is k) ∷ [])
      ∙ append_assoc bs (input_bound c.f (at no_input is k) ∷ [])
      (bounds_from (λ j. input_bound c.f (at no_input is j)) (k + 1) m)

  states_built : (k m : ℕ) (bs : List Bound) →
      bounds_after c is (states_from k m) bs ≡ bs ++ bounds_from (λ j. state_bound c) k m
  states_built k zero bs = sym (append-nil bs)
  states_built k (suc m) bs = states_built (k + 1) m (bs ++ state_bound c ∷ [])
      ∙ append_assoc bs (state_bound c ∷ []) (bounds_from (λ j. state_bound c) (k + 1) m)

  abbrev pub first_bounds : List Bound
  first_bounds = bounds_from (λ j. input_bound c.f (at no_input is j)) 0 i ++ bounds_from (λ j. state_bound c) 0 s

  pub first_built : bounds_after c is (inputs_from 0 i ++ states_from 0 s) [] ≡ first_bounds
  first_built = after_append c is (inputs_from 0 i) (states_from 0 s) []
      ∙ ap (bounds_after c is (states_from 0 s)) (inputs_built 0 i [])
      ∙ states_built 0 s (bounds_from (λ j. input_bound c.f (at no_input is j)) 0 i)

  pub first_long : length first_bounds ≡ i + s
  first_long =
      let a = from_length (λ j. input_bound c.f (at no_input is j)) 0 i in
      let b = from_length (λ j. state_bound c) 0 s in
      length-append (bounds_from (λ j. input_bound c.f (at no_input is j)) 0 i) (bounds_from (λ j. state_bound c) 0 s)
      ∙ omega (arith, a, b)

  pub first_variables : HasVariables c is i s first_bounds
  first_variables =
      let f = λ (j : ℕ). input_bound c.f (at no_input is j) in
      let g = λ (j : ℕ). state_bound c in
      let a = from_length f 0 i in
      record {
        long = let l = first_long in omega (arith, l);
        inputs = λ k lt. get_or_append_left (bounds_from f 0 i) (bounds_from g 0 s) no_bound k (omega (arith, lt, a))
            ∙ from_at f 0 i k lt ∙ ap f (omega arith);
        states = λ k lt. ap (λ (j : ℕ). at no_bound (bounds_from f 0 i ++ bounds_from g 0 s) (j + k)) (sym a)
            ∙ get_or-append-add (bounds_from f 0 i) (bounds_from g 0 s) k no_bound ∙ from_at g 0 s k lt;
      }
