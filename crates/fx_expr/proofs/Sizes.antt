-- Sizes as they are counted, and as they are.
use Rattle.std.proofs.Common.{◌≡◌, ℕ, suc, ◌+◌, ◌-◌, ◌≤◌, min, max, List, [], ◌∷◌, drop, take, refl, ap, ◌∙◌, length, map, arith}
use Rattle.std.proofs.Math.Seq.{take-length}
use Rattle.std.specs.Prelude.{slice_index_or}
use Rattle.fx_model.specs.Tree.{Tree, Literal, Input, State, Temp, Negation, Sum, Difference, Product, Quotient}
use Rattle.fx_model.specs.Paths.{height}
use Rattle.fx_model.specs.Counts.{tree_nodes, temp_nodes, result_nodes}
use Rattle.fx_expr.specs.TreeOf.{tree}
use Rattle.fx_expr.specs.Parts.{temp_of}
use Rattle.fx_expr.specs.declared.expr.Expr.{Expr}
use Rattle.fx_expr.specs.declared.parts.Temp.{Temp as Declared}
use Rattle.fx_expr.specs.SizeOf.{size_counted, size_of}

one_more : (n a : ℕ) → n ≡ size_counted a → size_counted (n + 1) ≡ size_counted (a + 1)
one_more n a e = omega arith

two_more : (n m a b : ℕ) → n ≡ size_counted a → m ≡ size_counted b →
    size_counted (size_counted (n + m) + 1) ≡ size_counted (a + b + 1)
two_more n m a b e f = omega arith

pub nodes_counted : (t : Tree) → (size_of t).nodes ≡ size_counted (tree_nodes t)
nodes_counted (Literal c) = refl
nodes_counted (Input k) = refl
nodes_counted (State k) = refl
nodes_counted (Temp k) = refl
nodes_counted (Negation a) = one_more (size_of a).nodes (tree_nodes a) (nodes_counted a)
nodes_counted (Sum a b) =
    two_more (size_of a).nodes (size_of b).nodes (tree_nodes a) (tree_nodes b) (nodes_counted a) (nodes_counted b)
nodes_counted (Difference a b) =
    two_more (size_of a).nodes (size_of b).nodes (tree_nodes a) (tree_nodes b) (nodes_counted a) (nodes_counted b)
nodes_counted (Product a b) =
    two_more (size_of a).nodes (size_of b).nodes (tree_nodes a) (tree_nodes b) (nodes_counted a) (nodes_counted b)
nodes_counted (Quotient a b) =
    two_more (size_of a).nodes (size_of b).nodes (tree_nodes a) (tree_nodes b) (nodes_counted a) (nodes_counted b)

higher_one : (n a : ℕ) → n ≡ size_counted a → size_counted (n + 1) ≡ size_counted (suc a)
higher_one n a e = omega arith

higher : (n m a b : ℕ) → n ≡ size_counted a → m ≡ size_counted b →
    size_counted (max n m + 1) ≡ size_counted (suc (max a b))
higher n m a b e f = omega arith

pub height_counted : (t : Tree) → (size_of t).height ≡ size_counted (height t)
height_counted (Literal c) = refl
height_counted (Input k) = refl
height_counted (State k) = refl
height_counted (Temp k) = refl
height_counted (Negation a) = higher_one (size_of a).height (height a) (height_counted a)
height_counted (Sum a b) =
    higher (size_of a).height (size_of b).height (height a) (height b) (height_counted a) (height_counted b)
height_counted (Difference a b) =
    higher (size_of a).height (size_of b).height (height a) (height b) (height_counted a) (height_counted b)
height_counted (Product a b) =
    higher (size_of a).height (size_of b).height (height a) (height b) (height_counted a) (height_counted b)
height_counted (Quotient a b) =
    higher (size_of a).height (size_of b).height (height a) (height b) (height_counted a) (height_counted b)

-- all that is behind the first
whole_rest : {X : Type 0} (x : X) (xs : List X) → take (length (x ∷ xs) - 1) (drop 1 (x ∷ xs)) ≡ xs
whole_rest x xs = let e : length (x ∷ xs) - 1 ≡ length xs = omega arith in ap (λ n. take n xs) e ∙ take-length xs

-- of temps, one after another
first_and_rest : (n m a b : ℕ) → n ≡ size_counted a → m ≡ size_counted b → min (n + m) 4294967295 ≡ size_counted (a + b)
first_and_rest n m a b e f = omega arith

pub first_temp : (ts : List Declared) (x : Declared) (n m r : ℕ) → 1 ≤ length ts → x ≡ slice_index_or ts 0 x →
    n ≡ (size_of (tree x.expr)).nodes → m ≡ size_counted (temp_nodes (map temp_of (take (length ts - 1) (drop 1 ts)))) →
    r ≡ min (n + m) 4294967295 → r ≡ size_counted (temp_nodes (map temp_of ts))
first_temp [] x n m r h e p q s = absurd (omega arith)
first_temp (t ∷ ts) x n m r h e p q s = s
    ∙ first_and_rest n m (tree_nodes (tree t.expr)) (temp_nodes (map temp_of ts)) (p
    ∙ ap (λ (y : Declared). (size_of (tree y.expr)).nodes) e ∙ nodes_counted (tree t.expr)) (q
    ∙ ap (λ (us : List Declared). size_counted (temp_nodes (map temp_of us))) (whole_rest t ts))

-- of results, each with its copy
first_with_copy : (n m a b : ℕ) → n ≡ size_counted a → m ≡ size_counted b →
    min (min (n + 1) 4294967295 + m) 4294967295 ≡ size_counted (a + 1 + b)
first_with_copy n m a b e f = omega arith

pub first_result : (es : List Expr) (x : Expr) (n k m r : ℕ) → 1 ≤ length es → x ≡ slice_index_or es 0 x →
    n ≡ (size_of (tree x)).nodes → k ≡ min (n + 1) 4294967295 →
    m ≡ size_counted (result_nodes (map tree (take (length es - 1) (drop 1 es)))) → r ≡ min (k + m) 4294967295 →
    r ≡ size_counted (result_nodes (map tree es))
first_result [] x n k m r h e p w q s = absurd (omega arith)
first_result (t ∷ es) x n k m r h e p w q s = s ∙ ap (λ (z : ℕ). min (z + m) 4294967295) w
    ∙ first_with_copy n m (tree_nodes (tree t)) (result_nodes (map tree es)) (p
    ∙ ap (λ (y : Expr). (size_of (tree y)).nodes) e ∙ nodes_counted (tree t)) (q
    ∙ ap (λ (us : List Expr). size_counted (result_nodes (map tree us))) (whole_rest t es))
