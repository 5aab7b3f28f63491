-- Letters as they are found in a tree: the tree is the pattern with them, and each that makes the tree is found.
use Rattle.std.proofs.Common.{◌≡◌, Bool, true, false, Option, Some, None, refl, sym, ap, subst, ◌∙◌}
use Rattle.std.specs.Prelude.{cond, if◌then◌else◌}
use Rattle.std.specs.Option.{option_and_then}
use Rattle.fx_rational.specs.Rational.{Rational}
use Rattle.fx_model.specs.Tree.{Tree, Literal, Negation, Sum, Difference, Product, Quotient}
use Rattle.fx_model.proofs.Options.{some_then}
use Rattle.fx_model.specs.Rules as table
use Rattle.fx_model.specs.Rules.{Pattern, Letters, A, B, C, L, K, Made, filled}
use Rattle.fx_rules.specs.Turned.{Found, nothing, may_be, may_be_number, matched, or_leaf, or_zero, letters_of}
use Rattle.fx_rules.proofs.SameTree.{same_tree_refl, same_tree_true}

-- what was found of a letter is what it stands for
abbrev pub Is : {X : Type 0} → Option X → X → Type 0
Is None v = Unit {0}
Is (Some x) v = x ≡ v

-- the same of all letters
pub record HoldsLetters (z : Found) (s : Letters) : Type 0 where
  pub a : Is z.a s.a
  pub b : Is z.b s.b
  pub c : Is z.c s.c
  pub l : Is z.l s.l
  pub k : Is z.k s.k

pub holds_nothing : (s : Letters) → HoldsLetters nothing s
holds_nothing s = record { a = tt {0}; b = tt {0}; c = tt {0}; l = tt {0}; k = tt {0} }

leaf_is : (o : Option Tree) → Is o (or_leaf o)
leaf_is None = tt {0}
leaf_is (Some e) = refl

zero_is : (o : Option Rational) → Is o (or_zero o)
zero_is None = tt {0}
zero_is (Some q) = refl

pub holds_found : (z : Found) (q : Rational) → HoldsLetters z (letters_of z q)
holds_found z q = record {
  a = leaf_is z.a;
  b = leaf_is z.b;
  c = leaf_is z.c;
  l = zero_is z.l;
  k = zero_is z.k;
}

-- ---- what is found is there
kept : (t : Bool) (x n : Found) → (if t then Some x else None) ≡ Some n → (t ≡ true) × (x ≡ n)
kept true x n e = (refl, cc)
kept false x n e = absurd cc

was : (o : Option Tree) (e v : Tree) → may_be o e ≡ true → e ≡ v → Is o v
was None e v h i = tt {0}
was (Some t) e v h i = same_tree_true t e h ∙ i

same_literal : (r q : Rational) → Literal r ≡ Literal q → r ≡ q
same_literal r q e = cc

was_number : (o : Option Rational) (q v : Rational) → may_be_number o q ≡ true → q ≡ v → Is o v
was_number None q v h i = tt {0}
was_number (Some r) q v h i = same_literal r q (same_tree_true (Literal r) (Literal q) h) ∙ i

-- a pattern was found in a tree: whatever letters hold of what is known then, make the tree, and hold of what was known
pub there : (p : Pattern) (e : Tree) (z n : Found) (s : Letters) → matched p e z ≡ Some n → HoldsLetters n s →
    (e ≡ filled s p) × HoldsLetters z s
there A e z n s i h =
    let t = kept (may_be z.a e) (record z { a = Some e }) n i in
    let g : HoldsLetters (record z { a = Some e }) s = subst (λ (x : Found). HoldsLetters x s) (sym t.1) h in
    (g.a, record { a = was z.a e s.a t.0 g.a; b = g.b; c = g.c; l = g.l; k = g.k })
there B e z n s i h =
    let t = kept (may_be z.b e) (record z { b = Some e }) n i in
    let g : HoldsLetters (record z { b = Some e }) s = subst (λ (x : Found). HoldsLetters x s) (sym t.1) h in
    (g.b, record { a = g.a; b = was z.b e s.b t.0 g.b; c = g.c; l = g.l; k = g.k })
there C e z n s i h =
    let t = kept (may_be z.c e) (record z { c = Some e }) n i in
    let g : HoldsLetters (record z { c = Some e }) s = subst (λ (x : Found). HoldsLetters x s) (sym t.1) h in
    (g.c, record { a = g.a; b = g.b; c = was z.c e s.c t.0 g.c; l = g.l; k = g.k })
there L (Literal q) z n s i h =
    let t = kept (may_be_number z.l q) (record z { l = Some q }) n i in
    let g : HoldsLetters (record z { l = Some q }) s = subst (λ (x : Found). HoldsLetters x s) (sym t.1) h in
    (ap Literal g.l, record { a = g.a; b = g.b; c = g.c; l = was_number z.l q s.l t.0 g.l; k = g.k })
there K (Literal q) z n s i h =
    let t = kept (may_be_number z.k q) (record z { k = Some q }) n i in
    let g : HoldsLetters (record z { k = Some q }) s = subst (λ (x : Found). HoldsLetters x s) (sym t.1) h in
    (ap Literal g.k, record { a = g.a; b = g.b; c = g.c; l = g.l; k = was_number z.k q s.k t.0 g.k })
there (table.Negation p) (Negation x) z n s i h =
    let one = there p x z n s i h in (ap Negation one.0, one.1)
there (table.Sum p q) (Sum x y) z n s i h =
    let m = some_then (matched q y) (matched p x z) n i in
    let two = there q y m.0 n s m.2 h in
    let one = there p x z m.0 s m.1 two.1 in (λ j. Sum (one.0 j) (two.0 j), one.1)
there (table.Difference p q) (Difference x y) z n s i h =
    let m = some_then (matched q y) (matched p x z) n i in
    let two = there q y m.0 n s m.2 h in
    let one = there p x z m.0 s m.1 two.1 in (λ j. Difference (one.0 j) (two.0 j), one.1)
there (table.Product p q) (Product x y) z n s i h =
    let m = some_then (matched q y) (matched p x z) n i in
    let two = there q y m.0 n s m.2 h in
    let one = there p x z m.0 s m.1 two.1 in (λ j. Product (one.0 j) (two.0 j), one.1)
there (table.Quotient p q) (Quotient x y) z n s i h =
    let m = some_then (matched q y) (matched p x z) n i in
    let two = there q y m.0 n s m.2 h in
    let one = there p x z m.0 s m.1 two.1 in (λ j. Quotient (one.0 j) (two.0 j), one.1)
there _ e z n s i h = absurd cc

-- ---- what is there is found
-- a left side makes no literal
abbrev pub finds_all : Pattern → Bool
finds_all Made = false
finds_all (table.Negation p) = finds_all p
finds_all (table.Sum p q) = cond (finds_all p) (finds_all q) false
finds_all (table.Difference p q) = cond (finds_all p) (finds_all q) false
finds_all (table.Product p q) = cond (finds_all p) (finds_all q) false
finds_all (table.Quotient p q) = cond (finds_all p) (finds_all q) false
finds_all _ = true

both : (t u : Bool) → cond t u false ≡ true → (t ≡ true) × (u ≡ true)
both true u e = (refl, e)
both false u e = absurd cc

may : (o : Option Tree) (v : Tree) → Is o v → may_be o v ≡ true
may None v h = refl
may (Some t) v h = ap (λ x. may_be (Some t) x) (sym h) ∙ same_tree_refl t

may_number : (o : Option Rational) (v : Rational) → Is o v → may_be_number o v ≡ true
may_number None v h = refl
may_number (Some r) v h = ap (λ x. may_be_number (Some r) x) (sym h) ∙ same_tree_refl (Literal r)

-- a pattern with letters that hold of what is known is found, and they hold then too
pub record FindsLetters (p : Pattern) (s : Letters) (z : Found) : Type 0 where
  pub next : Found
  pub is : matched p (filled s p) z ≡ Some next
  pub holds : HoldsLetters next s

two_found : (p q : Pattern) (s : Letters) (z : Found) (one : FindsLetters p s z) → FindsLetters q s one.next →
    (m : Found) × (option_and_then (matched q (filled s q)) (matched p (filled s p) z) ≡ Some m) × HoldsLetters m s
two_found p q s z one two =
    (two.next, ap (option_and_then (matched q (filled s q))) one.is ∙ two.is, two.holds)

pub found : (p : Pattern) (s : Letters) (z : Found) → finds_all p ≡ true → HoldsLetters z s → FindsLetters p s z
found A s z f h = record {
  next = record z { a = Some s.a };
  is = ap (λ t. if t then Some (record z { a = Some s.a }) else None) (may z.a s.a h.a);
  holds = record { a = refl; b = h.b; c = h.c; l = h.l; k = h.k };
}
found B s z f h = record {
  next = record z { b = Some s.b };
  is = ap (λ t. if t then Some (record z { b = Some s.b }) else None) (may z.b s.b h.b);
  holds = record { a = h.a; b = refl; c = h.c; l = h.l; k = h.k };
}
found C s z f h = record {
  next = record z { c = Some s.c };
  is = ap (λ t. if t then Some (record z { c = Some s.c }) else None) (may z.c s.c h.c);
  holds = record { a = h.a; b = h.b; c = refl; l = h.l; k = h.k };
}
found L s z f h = record {
  next = record z { l = Some s.l };
  is = ap (λ t. if t then Some (record z { l = Some s.l }) else None) (may_number z.l s.l h.l);
  holds = record { a = h.a; b = h.b; c = h.c; l = refl; k = h.k };
}
found K s z f h = record {
  next = record z { k = Some s.k };
  is = ap (λ t. if t then Some (record z { k = Some s.k }) else None) (may_number z.k s.k h.k);
  holds = record { a = h.a; b = h.b; c = h.c; l = h.l; k = refl };
}
found Made s z f h = absurd cc
found (table.Negation p) s z f h =
    let one = found p s z f h in record { next = one.next; is = one.is; holds = one.holds }
found (table.Sum p q) s z f h =
    let g = both (finds_all p) (finds_all q) f in
    let one = found p s z g.0 h in
    let m = two_found p q s z one (found q s one.next g.1 one.holds) in
    record { next = m.0; is = m.1; holds = m.2 }
found (table.Difference p q) s z f h =
    let g = both (finds_all p) (finds_all q) f in
    let one = found p s z g.0 h in
    let m = two_found p q s z one (found q s one.next g.1 one.holds) in
    record { next = m.0; is = m.1; holds = m.2 }
found (table.Product p q) s z f h =
    let g = both (finds_all p) (finds_all q) f in
    let one = found p s z g.0 h in
    let m = two_found p q s z one (found q s one.next g.1 one.holds) in
    record { next = m.0; is = m.1; holds = m.2 }
found (table.Quotient p q) s z f h =
    let g = both (finds_all p) (finds_all q) f in
    let one = found p s z g.0 h in
    let m = two_found p q s z one (found q s one.next g.1 one.holds) in
    record { next = m.0; is = m.1; holds = m.2 }
