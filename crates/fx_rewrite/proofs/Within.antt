-- The limits of a step, as they are tested: by the depth and the sizes alone.
use Rattle.std.proofs.Common.{◌≡◌, ℕ, ◌+◌, ◌≤◌, Bool, true, false, List, Some, refl, sym, ap, ◌∙◌, arith, rules, tests, length}
use Rattle.std.specs.Prelude.{◌↔◌, ◌&&◌, IsTrue, nat_le}
use Rattle.fx_model.specs.Tree.{Tree}
use Rattle.fx_model.specs.Function.{Function}
use Rattle.fx_model.specs.Nodes.{nodes_of}
use Rattle.fx_model.specs.Paths.{height, subtree, put, tree_at, found, with_tree}
use Rattle.fx_model.proofs.Counted.{node_count_is}
use Rattle.fx_model.proofs.Options.{some_then}
use Rattle.fx_expr.specs.LawfulFunction.{IsLawfulFunction}
use Rattle.fx_expr.specs.SizeOf.{size_of}
use Rattle.fx_expr.proofs.Sizes.{nodes_counted, height_counted}
use Rattle.fx_expr.proofs.Nodes.{nodes_after, part_nodes}
use Rattle.fx_rules.specs.Steps.{is_low, is_within_limits}
use Rattle.fx_rewrite.proofs.Heights.{low_after, high_after}
use Rattle.fx_rewrite.proofs.There.{tree_there}
use Rattle.fx_rewrite.proofs.Lawful.{low_in}

-- a test of one bound is a test of another that means the same
same_test : (b : Bool) (P : Type 0) (m n : ℕ) → (IsTrue b ↔ P) → (P → m ≤ n) → (m ≤ n → P) → b ≡ nat_le m n
same_test true P m n h f g = let k = f (h.0 refl) in let e : nat_le m n ≡ true = search (rules, tests) in sym e
same_test false P m n h f g = by (nat_le m n) refl
  where
    by : (t : Bool) → nat_le m n ≡ t → false ≡ nat_le m n
    by true e = absurd (let k : m ≤ n = search (rules, tests) in let x : IsTrue false = h.1 (g k) in cc)
    by false e = sym e

pub low_is : (f : Function) (k : ℕ) (path : List ℕ) (old new : Tree) (b : Bool) → IsLawfulFunction f →
    found f k path ≡ Some old → (IsTrue b ↔ (length path + (size_of new).height ≤ 200)) →
    b ≡ is_low (tree_at (with_tree f k path new) k)
low_is f k path old new b is there h =
    let s = some_then (subtree path) (tree_at f k) old there in
    let whole = low_in f.temps f.results k s.0 is.low_temps is.low_results s.1 in
    let c = height_counted new in
    let up = high_after path s.0 old new s.2 in
    same_test b (length path + (size_of new).height ≤ 200) (height (put path new s.0)) 200 h
    (λ l. low_after path 200 s.0 old new s.2 whole (omega arith))
    (λ l. omega arith)
    ∙ sym (ap is_low (tree_there f k s.0 (put path new) s.1))

pub small_is : (f : Function) (k : ℕ) (path : List ℕ) (old new : Tree) (n : ℕ) (b : Bool) → IsLawfulFunction f →
    found f k path ≡ Some old → n ≡ length (nodes_of f) →
    (IsTrue b ↔ (n + (size_of new).nodes ≤ 4000 + (size_of old).nodes)) →
    b ≡ nat_le (length (nodes_of (with_tree f k path new))) 4000
small_is f k path old new n b is there e h =
    let x = nodes_after f k path old new there in let y = part_nodes f k path old there in
    let c = node_count_is f in let d = node_count_is (with_tree f k path new) in
    let few = is.sizes.nodes in
    let s = nodes_counted old in let t = nodes_counted new in
    same_test b (n + (size_of new).nodes ≤ 4000 + (size_of old).nodes)
    (length (nodes_of (with_tree f k path new))) 4000 h (λ l. omega arith) (λ l. omega arith)

and_true : (b : Bool) → b ≡ (b && true)
and_true true = refl
and_true false = refl

and_false : (b : Bool) → false ≡ (b && false)
and_false true = refl
and_false false = refl

-- both at once, where the height is tested first
pub within_low : (f : Function) (k : ℕ) (path : List ℕ) (new : Tree) (low small : Bool) →
    low ≡ is_low (tree_at (with_tree f k path new) k) →
    small ≡ nat_le (length (nodes_of (with_tree f k path new))) 4000 → low ≡ true →
    small ≡ is_within_limits (with_tree f k path new) k
within_low f k path new low small p q t = and_true small ∙ ap (λ b. b && true) q
    ∙ ap (λ b. nat_le (length (nodes_of (with_tree f k path new))) 4000 && b) (sym t ∙ p)

pub not_within : (f : Function) (k : ℕ) (path : List ℕ) (new : Tree) (low : Bool) →
    low ≡ is_low (tree_at (with_tree f k path new) k) → low ≡ false → low ≡ is_within_limits (with_tree f k path new) k
not_within f k path new low p t = t ∙ and_false (nat_le (length (nodes_of (with_tree f k path new))) 4000)
    ∙ ap (λ b. nat_le (length (nodes_of (with_tree f k path new))) 4000 && b) (sym t ∙ p)
