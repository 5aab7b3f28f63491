-- A tree that was read: its height and its nodes, counted up to the limits.
use Rattle.std.proofs.Common.{◌≡◌, ◌≢◌, ◌⊎◌, inl, inr, ℕ, suc, ◌<◌, ◌≤◌, ◌+◌, Bool, true, false, cond, List, length, Option, Some, None, refl, sym, ap, ◌∙◌, arith, rules, tests, length-append}
use Rattle.std.specs.Prelude.{min, max, nat_le}
use Rattle.fx_model.specs.Tree.{Tree, Literal, Input, State, Temp, Negation, Sum, Difference, Product, Quotient}
use Rattle.fx_model.specs.Nodes.{Node, Add, Sub, Mul, Div, binary, flat}
use Rattle.fx_model.specs.Paths.{height}
use Rattle.fx_grammar.specs.declared.head.Head.{Head}
use Rattle.fx_grammar.specs.Operands.{Operand, low_tree, negation_of, negation, operation, both, combined_operand, is_high, tree_or}

-- how many nodes a tree adds
abbrev pub size : Tree → ℕ
size (Literal c) = 1
size (Input k) = 0
size (State k) = 0
size (Temp k) = 0
size (Negation a) = 1 + size a
size (Sum a b) = 1 + size a + size b
size (Difference a b) = 1 + size a + size b
size (Product a b) = 1 + size a + size b
size (Quotient a b) = 1 + size a + size b

abbrev pub operand_of : Tree → Operand
operand_of x =
    record { tree = low_tree (min 201 (height x)) (Some x); height = min 201 (height x); nodes = min 4001 (size x) }

made : Option Tree → ℕ → ℕ → Operand
made x h n = record { tree = x; height = h; nodes = n }

same_operand : {x y : Option Tree} {g h m n : ℕ} → x ≡ y → g ≡ h → m ≡ n → made x g m ≡ made y h n
same_operand {x = x} {y = y} {g = g} {h = h} {m = m} {n = n} p q r =
    ap (λ z. made z g m) p ∙ ap (λ k. made y k m) q ∙ ap (made y h) r

abbrev no_tree : Option Tree
no_tree = None

kept_none : (h : ℕ) → low_tree h no_tree ≡ no_tree
kept_none h = by (nat_le h 200)
  where
    by : (b : Bool) → cond b no_tree no_tree ≡ no_tree
    by true = refl
    by false = refl

kept_low : (h : ℕ) (x : Option Tree) → h ≤ 200 → low_tree h x ≡ x
kept_low h x le = let e : nat_le h 200 ≡ true = search (rules, tests) in rw e refl

kept_high : (h : ℕ) (x : Option Tree) → 200 < h → low_tree h x ≡ None
kept_high h x lt = let e : nat_le h 200 ≡ false = search (rules, tests, arith) in rw e refl

cut : ℕ → ℕ
cut h = min 201 h

low_or_high : (h : ℕ) → (h ≤ 200) ⊎ (200 < h)
low_or_high h = by (nat_le h 200) refl
  where
    by : (b : Bool) → nat_le h 200 ≡ b → (h ≤ 200) ⊎ (200 < h)
    by true e = inl (search (rules, tests))
    by false e = inr (search (rules, tests))

-- ---- negations

pub negation_is : (x : Tree) → negation (operand_of x) ≡ operand_of (Negation x)
unfolding made
negation_is x = same_operand (by (low_or_high (height x))) higher nodes
  where
    higher : min 201 (1 + min 201 (height x)) ≡ min 201 (suc (height x))
    higher = omega arith

    nodes : min 4001 (1 + min 4001 (size x)) ≡ min 4001 (1 + size x)
    nodes = omega arith

    by : (height x ≤ 200) ⊎ (200 < height x) →
        low_tree (min 201 (1 + min 201 (height x))) (negation_of (low_tree (min 201 (height x)) (Some x)))
        ≡ low_tree (min 201 (suc (height x))) (Some (Negation x))
    by (inl le) =
        let small : min 201 (height x) ≤ 200 = omega arith in
        ap (λ o. low_tree (min 201 (1 + min 201 (height x))) (negation_of o))
        (kept_low (min 201 (height x)) (Some x) small) ∙ ap (λ h. low_tree h (Some (Negation x))) higher
    by (inr lt) =
        let great : 200 < min 201 (height x) = omega arith in
        let great' : 200 < min 201 (suc (height x)) = omega arith in
        ap (λ o. low_tree (min 201 (1 + min 201 (height x))) (negation_of o))
        (kept_high (min 201 (height x)) (Some x) great) ∙ kept_none (min 201 (1 + min 201 (height x)))
        ∙ sym (kept_high (min 201 (suc (height x))) (Some (Negation x)) great')

-- ---- two operands

both_none : (sign : Head) (x : Option Tree) → both sign x None ≡ None
both_none sign None = refl
both_none sign (Some x) = refl

-- an operation of a sign whose height and nodes are those of its operands and one more
pub record IsOperationOf (sign : Head) (x y z : Tree) : Type 0 where
  pub tree : operation sign x y ≡ z
  pub height : height z ≡ suc (max (height x) (height y))
  pub size : size z ≡ 1 + size x + size y

pub joined_is : (sign : Head) (x y z : Tree) → IsOperationOf sign x y z →
    combined_operand sign (operand_of x) (operand_of y) ≡ operand_of z
unfolding made
joined_is sign x y z i = same_operand (by (low_or_high (height x)) (low_or_high (height y))) higher nodes
  where
    h : ℕ
    h = min 201 (1 + max (min 201 (height x)) (min 201 (height y)))

    higher : min 201 (1 + max (min 201 (height x)) (min 201 (height y))) ≡ min 201 (height z)
    higher = let e = i.height in omega arith

    nodes : min 4001 (1 + min 4001 (size x) + min 4001 (size y)) ≡ min 4001 (size z)
    nodes = let e = i.size in omega arith

    great : (200 < height x) ⊎ (200 < height y) → 200 < min 201 (height z)
    great (inl lt) = let e = i.height in omega arith
    great (inr lt) = let e = i.height in omega arith

    by : (height x ≤ 200) ⊎ (200 < height x) → (height y ≤ 200) ⊎ (200 < height y)
        → low_tree (min 201 (1 + max (min 201 (height x)) (min 201 (height y))))
        (both sign (low_tree (min 201 (height x)) (Some x)) (low_tree (min 201 (height y)) (Some y)))
        ≡ low_tree (min 201 (height z)) (Some z)
    by (inr lt) q =
        let g : 200 < min 201 (height x) = omega arith in
        ap (λ o. low_tree (min 201 (1 + max (min 201 (height x)) (min 201 (height y))))
        (both sign o (low_tree (min 201 (height y)) (Some y)))) (kept_high (min 201 (height x)) (Some x) g)
        ∙ kept_none (min 201 (1 + max (min 201 (height x)) (min 201 (height y))))
        ∙ sym (kept_high (min 201 (height z)) (Some z) (great (inl lt)))
    by (inl le) (inr lt) =
        let g : 200 < min 201 (height y) = omega arith in
        ap (λ o. low_tree (min 201 (1 + max (min 201 (height x)) (min 201 (height y))))
        (both sign (low_tree (min 201 (height x)) (Some x)) o)) (kept_high (min 201 (height y)) (Some y) g)
        ∙ ap (low_tree (min 201 (1 + max (min 201 (height x)) (min 201 (height y)))))
        (both_none sign (low_tree (min 201 (height x)) (Some x)))
        ∙ kept_none (min 201 (1 + max (min 201 (height x)) (min 201 (height y))))
        ∙ sym (kept_high (min 201 (height z)) (Some z) (great (inr lt)))
    by (inl le) (inl le') =
        let a : min 201 (height x) ≤ 200 = omega arith in
        let b : min 201 (height y) ≤ 200 = omega arith in
        ap (λ o. low_tree (min 201 (1 + max (min 201 (height x)) (min 201 (height y))))
        (both sign o (low_tree (min 201 (height y)) (Some y)))) (kept_low (min 201 (height x)) (Some x) a)
        ∙ ap (λ o. low_tree (min 201 (1 + max (min 201 (height x)) (min 201 (height y)))) (both sign (Some x) o))
        (kept_low (min 201 (height y)) (Some y) b)
        ∙ ap (λ t. low_tree (min 201 (1 + max (min 201 (height x)) (min 201 (height y)))) (Some t)) i.tree
        ∙ ap (λ k. low_tree k (Some z)) higher

-- ---- whole expressions

-- a tree that isn't too high is there
pub low_is : (x : Tree) → is_high (operand_of x) ≡ false → height x ≤ 200
low_is x e = let ne : min 201 (height x) ≢ 201 = search (rules, tests) in by (low_or_high (height x)) ne
  where
    by : (height x ≤ 200) ⊎ (200 < height x) → (min 201 (height x) ≢ 201) → height x ≤ 200
    by (inl le) ne = le
    by (inr lt) ne = absurd (ne (omega arith))

pub low_not_high : (x : Tree) → height x ≤ 200 → is_high (operand_of x) ≡ false
low_not_high x le = let lt : min 201 (height x) < 201 = omega arith in search (rules, tests, arith)

pub tree_is : (x : Tree) → height x ≤ 200 → tree_or (operand_of x).tree ≡ x
tree_is x le =
    let small : min 201 (height x) ≤ 200 = omega arith in ap tree_or (kept_low (min 201 (height x)) (Some x) small)

-- ---- the nodes of a tree in the list
-- of an operation, whose second operand comes behind the first
operation_size : (i : ℕ) (temps : List ℕ) (n : ℕ) (op : ℕ → ℕ → Node) (a b : Tree) →
    length (flat i temps n a).list ≡ size a → ((m : ℕ) → length (flat i temps m b).list ≡ size b) →
    length (binary n op (flat i temps n a) (λ m. flat i temps m b)).list ≡ 1 + size a + size b
operation_size i temps n op a b h each =
    let k = each (n + length (flat i temps n a).list) in simp length-append (omega arith)

pub flat_size : (i : ℕ) (temps : List ℕ) (n : ℕ) (x : Tree) → length (flat i temps n x).list ≡ size x
flat_size i temps n (Literal c) = refl
flat_size i temps n (Input k) = refl
flat_size i temps n (State k) = refl
flat_size i temps n (Temp k) = refl
flat_size i temps n (Negation a) = let h = flat_size i temps n a in simp length-append (omega arith)
flat_size i temps n (Sum a b) =
    operation_size i temps n Add a b (flat_size i temps n a) (λ m. flat_size i temps m b)
flat_size i temps n (Difference a b) =
    operation_size i temps n Sub a b (flat_size i temps n a) (λ m. flat_size i temps m b)
flat_size i temps n (Product a b) =
    operation_size i temps n Mul a b (flat_size i temps n a) (λ m. flat_size i temps m b)
flat_size i temps n (Quotient a b) =
    operation_size i temps n Div a b (flat_size i temps n a) (λ m. flat_size i temps m b)
