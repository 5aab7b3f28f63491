-- The test for equal trees.
use Rattle.std.proofs.Common.{◌≡◌, ℤ, pos, negsuc, Bool, true, false, refl, sym, ap, rules}
use Rattle.std.specs.Prelude.{◌==◌, IsTrue, ◌↔◌}
use Rattle.std.proofs.lemmas.Bool.{eqb-true, eq-eqb, and_parts}
use Rattle.fx_rational.specs.Rational.{Rational}
use Rattle.fx_model.specs.Tree.{Tree, Literal, Input, State, Temp, Negation, Sum, Difference, Product, Quotient}
use Rattle.fx_rules.specs.Turned.{same_whole, same_tree}

whole_refl : (n : ℤ) → same_whole n n ≡ true
whole_refl (pos n) = eq-eqb n n refl
whole_refl (negsuc n) = eq-eqb n n refl

whole_true : (m n : ℤ) → same_whole m n ≡ true → m ≡ n
whole_true (pos m) (pos n) h = ap pos (eqb-true m n h)
whole_true (pos m) (negsuc n) h = absurd cc
whole_true (negsuc m) (pos n) h = absurd cc
whole_true (negsuc m) (negsuc n) h = ap negsuc (eqb-true m n h)

pub same_tree_refl : (a : Tree) → same_tree a a ≡ true
same_tree_refl (Literal c) = rw (whole_refl c.top, eq-eqb c.less c.less refl) refl
same_tree_refl (Input k) = eq-eqb k k refl
same_tree_refl (State k) = eq-eqb k k refl
same_tree_refl (Temp k) = eq-eqb k k refl
same_tree_refl (Negation a) = same_tree_refl a
same_tree_refl (Sum a b) = rw (same_tree_refl a, same_tree_refl b) refl
same_tree_refl (Difference a b) = rw (same_tree_refl a, same_tree_refl b) refl
same_tree_refl (Product a b) = rw (same_tree_refl a, same_tree_refl b) refl
same_tree_refl (Quotient a b) = rw (same_tree_refl a, same_tree_refl b) refl

lit_same : (c d : Rational) → c.top ≡ d.top → c.less ≡ d.less → Literal c ≡ Literal d
lit_same c d p q = λ i. Literal (record { top = p i; less = q i })

pub same_tree_true : (a b : Tree) → same_tree a b ≡ true → a ≡ b
same_tree_true (Literal c) (Literal d) h =
    let p = and_parts (same_whole c.top d.top) (c.less == d.less) h in
    lit_same c d (whole_true c.top d.top p.0) (eqb-true c.less d.less p.1)
same_tree_true (Input k) (Input n) h = ap Input (eqb-true k n h)
same_tree_true (State k) (State n) h = ap State (eqb-true k n h)
same_tree_true (Temp k) (Temp n) h = ap Temp (eqb-true k n h)
same_tree_true (Negation a) (Negation x) h = ap Negation (same_tree_true a x h)
same_tree_true (Sum a b) (Sum x y) h =
    let p = and_parts (same_tree a x) (same_tree b y) h in
    λ i. Sum (same_tree_true a x p.0 i) (same_tree_true b y p.1 i)
same_tree_true (Difference a b) (Difference x y) h =
    let p = and_parts (same_tree a x) (same_tree b y) h in
    λ i. Difference (same_tree_true a x p.0 i) (same_tree_true b y p.1 i)
same_tree_true (Product a b) (Product x y) h =
    let p = and_parts (same_tree a x) (same_tree b y) h in
    λ i. Product (same_tree_true a x p.0 i) (same_tree_true b y p.1 i)
same_tree_true (Quotient a b) (Quotient x y) h =
    let p = and_parts (same_tree a x) (same_tree b y) h in
    λ i. Quotient (same_tree_true a x p.0 i) (same_tree_true b y p.1 i)
same_tree_true _ _ h = absurd cc

false_apart : (r : Bool) (a b : Tree) → (a ≡ b → IsTrue r) → r ≡ false → same_tree a b ≡ false
false_apart r a b h e = by (same_tree a b) refl where
  by : (t : Bool) → same_tree a b ≡ t → t ≡ false
  by false s = refl
  by true s = absurd (let k = h (same_tree_true a b s) in grind rules)

pub same_tree_decided : (r : Bool) (a b : Tree) → (IsTrue r ↔ (a ≡ b)) → r ≡ same_tree a b
same_tree_decided true a b h = let e : a ≡ b = h.0 (search rules) in rw e (sym (same_tree_refl b))
same_tree_decided false a b h = sym (false_apart false a b h.1 refl)
