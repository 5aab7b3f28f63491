-- How many nodes a function has once a tree is exchanged.
use Rattle.std.proofs.Common.{◌≡◌, ℕ, zero, suc, ◌+◌, ◌-◌, ◌≤◌, min, List, [], ◌∷◌, Some, sym, subst, ◌∙◌, arith, length}
use Rattle.std.specs.Prelude.{slice_get}
use Rattle.fx_model.specs.Tree as model
use Rattle.fx_model.specs.Tree.{Tree, Negation, Sum, Difference, Product, Quotient}
use Rattle.fx_model.specs.Function as function
use Rattle.fx_model.specs.Function.{Function}
use Rattle.fx_model.specs.Nodes.{nodes_of}
use Rattle.fx_model.specs.Counts.{tree_nodes, temp_nodes, result_nodes, node_count}
use Rattle.fx_model.specs.Paths.{child, subtree, child_changed, put, tree_in, tree_at, found, temps_changed, results_changed, results_after, with_tree}
use Rattle.fx_model.proofs.Counted.{node_count_is}
use Rattle.fx_model.proofs.Options.{some_then}
use Rattle.fx_expr.specs.LawfulFunction.{IsLawfulFunction}
use Rattle.fx_expr.specs.FunctionOf.{function_of, IsFunction}
use Rattle.fx_expr.specs.declared.function.Function.TheInside.{Inside}
use Rattle.fx_expr.specs.SizeOf.{size_counted, size_of}
use Rattle.fx_expr.proofs.Sizes.{nodes_counted}

child_nodes : (d : ℕ) (e a : Tree) (f : Tree → Tree) (m n : ℕ) → child d e ≡ Some a →
    tree_nodes (f a) + m ≡ tree_nodes a + n → tree_nodes (child_changed d f e) + m ≡ tree_nodes e + n
child_nodes zero (Negation c) a f m n i h =
    let e : c ≡ a = cc in let k : tree_nodes (f c) + m ≡ tree_nodes c + n = rw e h in omega arith
child_nodes zero (Sum c b) a f m n i h =
    let e : c ≡ a = cc in let k : tree_nodes (f c) + m ≡ tree_nodes c + n = rw e h in omega arith
child_nodes zero (Difference c b) a f m n i h =
    let e : c ≡ a = cc in let k : tree_nodes (f c) + m ≡ tree_nodes c + n = rw e h in omega arith
child_nodes zero (Product c b) a f m n i h =
    let e : c ≡ a = cc in let k : tree_nodes (f c) + m ≡ tree_nodes c + n = rw e h in omega arith
child_nodes zero (Quotient c b) a f m n i h =
    let e : c ≡ a = cc in let k : tree_nodes (f c) + m ≡ tree_nodes c + n = rw e h in omega arith
child_nodes (suc zero) (Sum b c) a f m n i h =
    let e : c ≡ a = cc in let k : tree_nodes (f c) + m ≡ tree_nodes c + n = rw e h in omega arith
child_nodes (suc zero) (Difference b c) a f m n i h =
    let e : c ≡ a = cc in let k : tree_nodes (f c) + m ≡ tree_nodes c + n = rw e h in omega arith
child_nodes (suc zero) (Product b c) a f m n i h =
    let e : c ≡ a = cc in let k : tree_nodes (f c) + m ≡ tree_nodes c + n = rw e h in omega arith
child_nodes (suc zero) (Quotient b c) a f m n i h =
    let e : c ≡ a = cc in let k : tree_nodes (f c) + m ≡ tree_nodes c + n = rw e h in omega arith
child_nodes _ e a f m n i h = absurd cc

put_nodes : (path : List ℕ) (e old new : Tree) → subtree path e ≡ Some old →
    tree_nodes (put path new e) + tree_nodes old ≡ tree_nodes e + tree_nodes new
put_nodes [] e old new i =
    let same : e ≡ old = cc in
    rw same (let k : tree_nodes new + tree_nodes old ≡ tree_nodes old + tree_nodes new = omega arith in k)
put_nodes (d ∷ ds) e old new i =
    let s = some_then (subtree ds) (child d e) old i in
    child_nodes d e s.0 (put ds new) (tree_nodes old) (tree_nodes new) s.1 (put_nodes ds s.0 old new s.2)

list_nodes : (es : List Tree) (k : ℕ) (e : Tree) (g : Tree → Tree) (m n : ℕ) → slice_get es k ≡ Some e →
    tree_nodes (g e) + m ≡ tree_nodes e + n →
    result_nodes (results_changed es k g) + m ≡ result_nodes es + n
list_nodes [] k e g m n i h = absurd cc
list_nodes (a ∷ es) zero e g m n i h =
    let same : a ≡ e = cc in let q : tree_nodes (g a) + m ≡ tree_nodes a + n = rw same h in omega arith
list_nodes (a ∷ es) (suc k) e g m n i h = let q = list_nodes es k e g m n i h in omega arith

place_nodes : (ts : List function.Temp) (es : List Tree) (k : ℕ) (e : Tree) (g : Tree → Tree) (m n : ℕ) →
    tree_in ts es k ≡ Some e → tree_nodes (g e) + m ≡ tree_nodes e + n →
    (temp_nodes (temps_changed ts k g) + result_nodes (results_after ts es k g)) + m
    ≡ (temp_nodes ts + result_nodes es) + n
place_nodes [] es k e g m n i h = let q = list_nodes es k e g m n i h in omega arith
place_nodes (t ∷ ts) es zero e g m n i h =
    let same : t.tree ≡ e = cc in let q : tree_nodes (g t.tree) + m ≡ tree_nodes t.tree + n = rw same h in omega arith
place_nodes (t ∷ ts) es (suc k) e g m n i h = let q = place_nodes ts es k e g m n i h in omega arith

-- the new tree's come, the old one's go
pub nodes_after : (f : Function) (k : ℕ) (path : List ℕ) (old new : Tree) → found f k path ≡ Some old →
    node_count (with_tree f k path new) + tree_nodes old ≡ node_count f + tree_nodes new
nodes_after f k path old new there =
    let s = some_then (subtree path) (tree_at f k) old there in
    let q =
    place_nodes f.temps f.results k s.0 (put path new) (tree_nodes old) (tree_nodes new) s.1
    (put_nodes path s.0 old new s.2) in
    omega arith

-- a subtree has no more nodes than its function
pub part_nodes : (f : Function) (k : ℕ) (path : List ℕ) (old : Tree) → found f k path ≡ Some old →
    tree_nodes old ≤ node_count f
part_nodes f k path old there = let q = nodes_after f k path old (model.Input 0) there in omega arith

exact_count : (n : ℕ) → n ≤ 4000 → size_counted n ≡ n
exact_count n h = omega arith

pub few_nodes : (t : Tree) → tree_nodes t ≤ 4000 → (size_of t).nodes ≡ tree_nodes t
few_nodes t h = nodes_counted t ∙ exact_count (tree_nodes t) h

-- the count that is kept
pub record Recounted (f : Function) (k : ℕ) (path : List ℕ) (new : Tree) (n a b : ℕ) : Type 0 where
  pub below : a ≤ n
  pub is : n - a + b ≡ length (nodes_of (with_tree f k path new))
  pub small : n - a + b ≤ 4000

pub recounted : (f : Function) (k : ℕ) (path : List ℕ) (old new : Tree) (n a b : ℕ) → found f k path ≡ Some old →
    n ≡ length (nodes_of f) → length (nodes_of f) ≤ 4000 → length (nodes_of (with_tree f k path new)) ≤ 4000 →
    a ≡ (size_of old).nodes → b ≡ (size_of new).nodes → Recounted f k path new n a b
recounted f k path old new n a b there is few fewer p q =
    let x = nodes_after f k path old new there in let y = part_nodes f k path old there in
    let c = node_count_is f in let d = node_count_is (with_tree f k path new) in
    let u : tree_nodes old ≤ 4000 = omega arith in
    let v : tree_nodes new ≤ 4000 = omega arith in
    let s = few_nodes old u in let t = few_nodes new v in
    record { below = omega arith; is = omega arith; small = omega arith }

-- the count of a function that is made of its parts
pub all_counted : (f : Function) (v a b n : ℕ) → v ≡ length f.inputs + length f.states →
    a ≡ size_counted (temp_nodes f.temps) → b ≡ size_counted (result_nodes f.results) →
    n ≡ min (min (v + a) 4294967295 + b) 4294967295 → length (nodes_of f) ≤ 4000 → n ≡ length (nodes_of f)
all_counted f v a b n p q r e few = let c = node_count_is f in omega arith

-- the same of a function in memory
pub replaced : (inside : Inside) (now : Function) (k : ℕ) (path : List ℕ) (old new : Tree) (a b : ℕ) →
    function_of inside ≡ now → IsFunction inside → IsLawfulFunction (with_tree now k path new) →
    found (function_of inside) k path ≡ Some old →
    ((t : Tree) → found now k path ≡ Some t → a ≡ (size_of t).nodes) → b ≡ (size_of new).nodes →
    Recounted (function_of inside) k path new inside.nodes a b
replaced inside now k path old new a b same is lawful there p q =
    recounted (function_of inside) k path old new inside.nodes a b there is.nodes is.lawful.sizes.nodes
    (subst (λ (f : Function). length (nodes_of (with_tree f k path new)) ≤ 4000) (sym same) lawful.sizes.nodes)
    (p old (subst (λ (f : Function). found f k path ≡ Some old) same there)) q
