-- The node list of a function: inputs and states first, operands before each node, and copies last.
use Rattle.std.proofs.Common.{◌≡◌, ℕ, zero, suc, ◌+◌, ◌<◌, ◌≤◌, List, [], ◌∷◌, ◌++◌, length, get_or, refl, sym, ap, subst, ◌∙◌, arith, length-append}
use Rattle.std.specs.Prelude.{All}
use Rattle.std.proofs.lemmas.List.{length_push}
use Rattle.std.proofs.lemmas.List.Elements.{All-nil}
use Rattle.fx_model.specs.Tree as tree
use Rattle.fx_model.specs.Tree.{Tree, at}
use Rattle.fx_model.specs.Function.{Function, Temp, outputs}
use Rattle.fx_model.specs.Nodes.{Node, Neg, Add, Sub, Mul, Div, Flat, flat, inputs_from, states_from, copies_of, nodes_after, nodes_of}
use Rattle.fx_flat.specs.InPlace.{IsInPlace, AreInPlace}
use Rattle.fx_model.specs.Valid.{RefersBelow, AllReferBelow, ReferBack, IsValid}
use Rattle.fx_model.proofs.Counted.{copies_length, inputs_length, states_length}
use Rattle.fx_model.proofs.Roots.{AreBelow, IsCopyNode, below_more, copies_are, root_more}

pub ordered_append : (i s k : ℕ) (xs ys : List Node) → AreInPlace i s k xs → AreInPlace i s (k + length xs) ys →
    AreInPlace i s k (xs ++ ys)
ordered_append i s k [] ys h g = subst (λ (m : ℕ). AreInPlace i s m ys) (omega arith) g
ordered_append i s k (x ∷ xs) ys h g =
    (h.0, ordered_append i s (k + 1) xs ys h.1 (subst (λ (m : ℕ). AreInPlace i s m ys) (omega arith) g))

inputs_ordered : (i s k m : ℕ) → k + m ≤ i → AreInPlace i s k (inputs_from k m)
inputs_ordered i s k zero h = tt
inputs_ordered i s k (suc m) h = ((refl, omega (arith, h)), inputs_ordered i s (k + 1) m (omega (arith, h)))

states_ordered : (i s k j m : ℕ) → k ≡ i + j → j + m ≤ s → AreInPlace i s k (states_from j m)
states_ordered i s k j zero e l = tt
states_ordered i s k j (suc m) e l =
    ((e, omega (arith, l)), states_ordered i s (k + 1) (j + 1) m (omega (arith, e)) (omega (arith, l)))

-- node k stands where it may
pub ordered_at : (i s k : ℕ) (nodes : List Node) (d : Node) → AreInPlace i s 0 nodes → k < length nodes →
    IsInPlace i s k (get_or nodes k d)
ordered_at i s k nodes d h lt = subst (λ (m : ℕ). IsInPlace i s m (get_or nodes k d)) (omega arith) (go k 0 nodes h lt)
  where
    go : (k m : ℕ) (nodes : List Node) → AreInPlace i s m nodes → k < length nodes →
        IsInPlace i s (k + m) (get_or nodes k d)
    go k m [] h lt = absurd (omega (arith, lt))
    go zero m (x ∷ xs) h lt = subst (λ (n : ℕ). IsInPlace i s n x) (omega arith) h.0
    go (suc k) m (x ∷ xs) h lt =
        subst (λ (n : ℕ). IsInPlace i s n (get_or xs k d)) (omega arith) (go k (m + 1) xs h.1 (omega (arith, lt)))

-- ---- a tree's nodes
pub record IsFlat (i s n : ℕ) (x : Flat) : Type 0 where
  pub list : AreInPlace i s n x.list
  pub root : x.root < n + length x.list

one_more : (i s n : ℕ) (list : List Node) (node : Node) → AreInPlace i s n list → IsInPlace i s (n + length list) node →
    IsFlat i s n (record { list = list ++ node ∷ []; root = n + length list })
one_more i s n list node h o = record {
  list = ordered_append i s n list (node ∷ []) h (o, tt);
  root = let l = length-append list (node ∷ []) in omega (arith, l);
}

two_more : (i s n : ℕ) (xs ys : List Node) (node : Node) → AreInPlace i s n xs → AreInPlace i s (n + length xs) ys →
    IsInPlace i s (n + length xs + length ys) node →
    IsFlat i s n (record { list = xs ++ ys ++ node ∷ []; root = n + length xs + length ys })
two_more i s n xs ys node h g o =
    let l = length-append xs ys in
    let place : n + length (xs ++ ys) ≡ n + length xs + length ys = omega (arith, l) in
    let all =
    one_more i s n (xs ++ ys) node (ordered_append i s n xs ys h g)
    (subst (λ (m : ℕ). IsInPlace i s m node) (sym place) o) in
    record { list = all.list; root = let r = all.root in omega (arith, r, l) }

flat_ordered : (i s n : ℕ) (temps : List ℕ) (e : Tree) → i + s ≤ n → AreBelow n temps →
    RefersBelow i s (length temps) e → IsFlat i s n (flat i temps n e)
flat_ordered i s n temps (tree.Literal c) l h r = record { list = (omega (arith, l), tt); root = omega arith }
flat_ordered i s n temps (tree.Input k) l h r = record { list = tt; root = omega (arith, l, r) }
flat_ordered i s n temps (tree.State k) l h r = record { list = tt; root = omega (arith, l, r) }
flat_ordered i s n temps (tree.Temp k) l h r = record { list = tt; root = let b = h k 0 r in omega (arith, b) }
flat_ordered i s n temps (tree.Negation a) l h r =
    let x = flat_ordered i s n temps a l h r in let xr = x.root in
    one_more i s n (flat i temps n a).list (Neg (flat i temps n a).root) x.list (omega (arith, l), xr)
flat_ordered i s n temps (tree.Sum a b) l h r =
    let fx = flat i temps n a in let m = n + length fx.list in
    let x = flat_ordered i s n temps a l h r.0 in
    let y = flat_ordered i s m temps b (omega (arith, l)) (below_more n m temps (omega arith) h) r.1 in
    let xr = x.root in let yr = y.root in
    two_more i s n fx.list (flat i temps m b).list (Add fx.root (flat i temps m b).root) x.list y.list
    (omega (arith, l), omega (arith, xr), omega (arith, yr))
flat_ordered i s n temps (tree.Difference a b) l h r =
    let fx = flat i temps n a in let m = n + length fx.list in
    let x = flat_ordered i s n temps a l h r.0 in
    let y = flat_ordered i s m temps b (omega (arith, l)) (below_more n m temps (omega arith) h) r.1 in
    let xr = x.root in let yr = y.root in
    two_more i s n fx.list (flat i temps m b).list (Sub fx.root (flat i temps m b).root) x.list y.list
    (omega (arith, l), omega (arith, xr), omega (arith, yr))
flat_ordered i s n temps (tree.Product a b) l h r =
    let fx = flat i temps n a in let m = n + length fx.list in
    let x = flat_ordered i s n temps a l h r.0 in
    let y = flat_ordered i s m temps b (omega (arith, l)) (below_more n m temps (omega arith) h) r.1 in
    let xr = x.root in let yr = y.root in
    two_more i s n fx.list (flat i temps m b).list (Mul fx.root (flat i temps m b).root) x.list y.list
    (omega (arith, l), omega (arith, xr), omega (arith, yr))
flat_ordered i s n temps (tree.Quotient a b) l h r =
    let fx = flat i temps n a in let m = n + length fx.list in
    let x = flat_ordered i s n temps a l h r.0 in
    let y = flat_ordered i s m temps b (omega (arith, l)) (below_more n m temps (omega arith) h) r.1 in
    let xr = x.root in let yr = y.root in
    two_more i s n fx.list (flat i temps m b).list (Div fx.root (flat i temps m b).root) x.list y.list
    (omega (arith, l), omega (arith, xr), omega (arith, yr))

-- ---- copies
copies_ordered : (i s n : ℕ) (roots : List ℕ) → i + s ≤ n → AreBelow n roots → AreInPlace i s n (copies_of roots)
copies_ordered i s n [] l h = tt
copies_ordered i s n (a ∷ roots) l h = (
  (l, h 0 0 (omega arith)),
  copies_ordered i s (n + 1) roots (omega (arith, l)) (λ k d lt. let b = h (suc k) d (omega (arith, lt)) in
      omega (arith, b)),
)

-- ---- all nodes
-- what stands before the copies, and what is copied
pub record IsNodeList (i s m : ℕ) (nodes : List Node) : Type 0 where
  pub before : List Node
  pub copies : List Node
  pub is : nodes ≡ before ++ copies
  pub count : length copies ≡ m
  pub are_copies : All IsCopyNode copies
  pub enough : i + s ≤ length before
  pub ordered : AreInPlace i s 0 nodes

-- so many stand before the copies
pub before_length : {i s m : ℕ} {nodes : List Node} (l : IsNodeList i s m nodes) → length nodes ≡ length l.before + m
before_length l = ap length l.is ∙ length-append l.before l.copies ∙ ap (λ (m : ℕ). length l.before + m) l.count

after_ordered : (i s : ℕ) (ts : List Temp) (es : List Tree) (temps roots : List ℕ) (ns : List Node) →
    i + s ≤ length ns → AreInPlace i s 0 ns → AreBelow (length ns) temps → AreBelow (length ns) roots →
    ReferBack i s (length temps) ts → AllReferBelow i s (length temps + length ts) es →
    IsNodeList i s (length roots + length es) (nodes_after i ts es temps roots ns)
after_ordered i s [] [] temps roots ns l o t r back refer = record {
  before = ns;
  copies = copies_of roots;
  is = refl;
  count = let c = copies_length roots in omega (arith, c);
  are_copies = copies_are roots;
  enough = omega (arith, l);
  ordered =
      ordered_append i s 0 ns (copies_of roots) o
      (subst (λ (m : ℕ). AreInPlace i s m (copies_of roots)) (omega arith)
      (copies_ordered i s (length ns) roots (omega (arith, l)) r));
}
after_ordered i s [] (e ∷ es) temps roots ns l o t r back refer =
    let x = flat i temps (length ns) e in
    let f = flat_ordered i s (length ns) temps e l t (subst (λ (m : ℕ). RefersBelow i s m e) (omega arith) refer.0) in
    let long = length-append ns x.list in
    let more = after_ordered i s [] es temps (roots ++ x.root ∷ []) (ns ++ x.list) (omega (arith, l, long))
    (ordered_append i s 0 ns x.list o (subst (λ (m : ℕ). AreInPlace i s m x.list) (omega arith) f.list))
    (below_more (length ns) (length (ns ++ x.list)) temps (omega (arith, long)) t)
    (subst (λ (m : ℕ). AreBelow m (roots ++ x.root ∷ [])) (sym long)
    (root_more (length ns) x.list roots x.root r f.root))
    back refer.1 in
    let pushed = length_push roots x.root in
    subst (λ (m : ℕ). IsNodeList i s m (nodes_after i [] es temps (roots ++ x.root ∷ []) (ns ++ x.list)))
    (omega (arith, pushed)) more
after_ordered i s (t ∷ ts) es temps roots ns l o below r back refer =
    let x = flat i temps (length ns) t.tree in
    let f = flat_ordered i s (length ns) temps t.tree l below back.0 in
    let long = length-append ns x.list in
    let pushed = length_push temps x.root in
    after_ordered i s ts es (temps ++ x.root ∷ []) roots (ns ++ x.list) (omega (arith, l, long))
    (ordered_append i s 0 ns x.list o (subst (λ (m : ℕ). AreInPlace i s m x.list) (omega arith) f.list))
    (subst (λ (m : ℕ). AreBelow m (temps ++ x.root ∷ [])) (sym long)
    (root_more (length ns) x.list temps x.root below f.root))
    (below_more (length ns) (length (ns ++ x.list)) roots (omega (arith, long)) r)
    (subst (λ (m : ℕ). ReferBack i s m ts) (sym pushed) back.1)
    (subst (λ (m : ℕ). AllReferBelow i s m es) (omega (arith, pushed)) refer)

module _ (fn : Function) (valid : IsValid fn) where
  start_long : length (inputs_from 0 (length fn.inputs) ++ states_from 0 (length fn.states))
      ≡ length fn.inputs + length fn.states
  start_long =
      let a = inputs_length 0 (length fn.inputs) in
      let b = states_length 0 (length fn.states) in
      length-append (inputs_from 0 (length fn.inputs)) (states_from 0 (length fn.states)) ∙ omega (arith, a, b)

  start_ordered : AreInPlace (length fn.inputs) (length fn.states) 0
      (inputs_from 0 (length fn.inputs) ++ states_from 0 (length fn.states))
  start_ordered =
      ordered_append (length fn.inputs) (length fn.states) 0 (inputs_from 0 (length fn.inputs))
      (states_from 0 (length fn.states))
      (inputs_ordered (length fn.inputs) (length fn.states) 0 (length fn.inputs) (omega arith))
      (states_ordered (length fn.inputs) (length fn.states) (0 + length (inputs_from 0 (length fn.inputs))) 0
      (length fn.states) (let l = inputs_length 0 (length fn.inputs) in omega (arith, l)) (omega arith))

  pub node_list : IsNodeList (length fn.inputs) (length fn.states) (outputs fn + length fn.states) (nodes_of fn)
  node_list =
      let s = start_long in
      let all =
      after_ordered (length fn.inputs) (length fn.states) fn.temps fn.results [] []
      (inputs_from 0 (length fn.inputs) ++ states_from 0 (length fn.states)) (omega (arith, s)) start_ordered
      (All-nil (λ (r : ℕ). r < length (inputs_from 0 (length fn.inputs) ++ states_from 0 (length fn.states))))
      (All-nil (λ (r : ℕ). r < length (inputs_from 0 (length fn.inputs) ++ states_from 0 (length fn.states))))
      valid.temps (subst (λ (m : ℕ). AllReferBelow (length fn.inputs) (length fn.states) m fn.results)
      (omega arith) valid.results) in
      subst (λ (m : ℕ). IsNodeList (length fn.inputs) (length fn.states) m (nodes_of fn)) (let a = valid.all_results in
      omega (arith, a)) all
