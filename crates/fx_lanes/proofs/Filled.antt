-- Sixteen lanes that are filled one after the other.
use Rattle.std.proofs.Common.{◌≡◌, ℕ, zero, suc, ◌+◌, ◌^◌, ◌<◌, ◌≤◌, List, [], ◌∷◌, length, map, All, FitsSigned, refl, sym, ap, ap₂, subst, ◌∙◌, arith, pos, ℤ, ◌*ℤ◌, Some, None, to_z, of_z}
use Rattle.std.specs.Prelude.{slice_set}
use Rattle.std.specs.Int.{w64}
use Rattle.std.proofs.lemmas.Int.{to_z-of_z}
use Rattle.std.proofs.lemmas.List.{ext_get_or, length-map, length-set}
use Rattle.std.proofs.lemmas.List.Elements.{All-from_get_or, All-weaker}
use Rattle.fx_model.specs.Machine.{Round, IsWord, rounded, floor_divided}
use Rattle.fx_model.specs.Tree.{at}
use Rattle.fx_word.specs.Words.{IsSomeWord}
use Rattle.fx_word.proofs.Fits.{fits_64, shown_64}
use Rattle.fx_machine.proofs.Codes.{at_map_any}
use Rattle.fx_lanes.specs.WordsSideBySide.{AreNumbers, AreLanes, multiplied, divided}
use Rattle.fx_lanes.proofs.Lanewise.{Gives, gives, both_many}
use Rattle.fx_lanes.proofs.Sixteen.{side_at, side_of_all, sides_many}

-- sixteen words, of which the first k are such
pub record Filled (P : ℕ → ℤ → Type 0) (k : ℕ) (words : List ℤ) : Type 0 where
  pub many : length words ≡ 16
  pub each : (i : ℕ) → i < k → P i (at (pos 0) words i)

-- one lane more
next_put : (words : List ℤ) (j : ℕ) (w : ℤ) (P : ℕ → ℤ → Type 0) → j < length words →
    ((i : ℕ) → i < j → P i (at (pos 0) words i)) → P j w
    → (i : ℕ) → i < j + 1 → P i (at (pos 0) (slice_set words j w) i)
next_put [] j w P lt h hw i l = absurd (omega arith)
next_put (x ∷ xs) zero w P lt h hw zero l = hw
next_put (x ∷ xs) zero w P lt h hw (suc i) l = absurd (omega arith)
next_put (x ∷ xs) (suc j) w P lt h hw zero l = h zero (omega arith)
next_put (x ∷ xs) (suc j) w P lt h hw (suc i) l =
    next_put xs j w (λ m. P (suc m)) (omega arith) (λ m n. h (suc m) (omega arith)) hw i (omega arith)

filled_next : (P : ℕ → ℤ → Type 0) (k : ℕ) (words : List ℤ) (w : ℤ) → k < 16 → Filled P k words → P k w →
    Filled P (k + 1) (slice_set words k w)
filled_next P k words w lt h hw = record {
  many = length-set _ _ _ ∙ h.many;
  each = next_put words k w P (omega (arith, h.many)) h.each hw;
}

-- the first k are the products, or the quotients, of two lists
abbrev pub AreProducts : Round → ℕ → List ℤ → List ℤ → ℕ → List ℤ → Type 0
AreProducts r s x y = Filled (λ i z. z ≡ rounded r (at (pos 0) x i *ℤ at (pos 0) y i) (pos s))

abbrev pub AreQuotients : ℕ → List ℤ → List ℤ → ℕ → List ℤ → Type 0
AreQuotients s x y = Filled (λ i z. floor_divided (at (pos 0) x i *ℤ pos (2 ^ s)) (at (pos 0) y i) ≡ Some z)

-- the word in a lane, and as it is passed on
word_at : (n : ℕ) (ws : List ℤ) (k : ℕ) → AreLanes n ws → k < 16 → IsWord n (at (pos 0) ws k)
word_at n ws k h lt = h.words k (pos 0) (omega (arith, h.many))

passed : (n : ℕ) (ws : List ℤ) (k : ℕ) → n ≤ 64 → AreLanes n ws → k < 16 →
    to_z w64 (of_z w64 (at (pos 0) ws k)) ≡ at (pos 0) ws k
passed n ws k le h lt = shown_64 n (at (pos 0) ws k) (at (pos 0) ws k) le refl (word_at n ws k h lt)

pub are_numbers : {n : ℕ} {ws : List ℤ} → n ≤ 64 → AreLanes n ws → AreNumbers w64 ws
are_numbers {n} {ws} le h =
    record { many = h.many; fits = All-weaker (IsWord n) (FitsSigned w64) (λ v. fits_64 n v le) ws h.words }

-- two words of n bits that fit an operation
pub record Operands (n : ℕ) (F : ℤ → ℤ → Type 0) (v w : ℤ) : Type 0 where
  pub left : IsWord n v
  pub right : IsWord n w
  pub fits : F v w

-- ---- one product or quotient more
module _ {n : ℕ} {x y : List ℤ} (k : ℕ) (le : n ≤ 64) (g : AreLanes n x) (h : AreLanes n y) (lt : k < 16) where
  operands : (F : ℤ → ℤ → Type 0) → F (at (pos 0) x k) (at (pos 0) y k)
      → Operands n F (to_z w64 (of_z w64 (at (pos 0) x k))) (to_z w64 (of_z w64 (at (pos 0) y k)))
  operands F fits =
      let ex = sym (passed n x k le g lt) in let ey = sym (passed n y k le h lt) in record {
        left = subst (IsWord n) ex (word_at n x k g lt);
        right = subst (IsWord n) ey (word_at n y k h lt);
        fits = subst (F _) ey (subst (λ v. F v (at (pos 0) y k)) ex fits);
      }

  pub product_operands : (r : Round) (s : ℕ) → All (IsWord n) (multiplied r s x y)
      → Operands n (λ v w. IsWord n (rounded r (v *ℤ w) (pos s))) (to_z w64 (of_z w64 (at (pos 0) x k)))
      (to_z w64 (of_z w64 (at (pos 0) y k)))
  product_operands r s all =
      let f = λ (a b : ℤ). rounded r (a *ℤ b) (pos s) in
      operands (λ v w. IsWord n (f v w)) (side_of_all (IsWord n) (pos 0) f x y k g.many h.many lt all)

  pub quotient_operands : (s : ℕ) → All (IsSomeWord n) (divided s x y)
      → Operands n (λ v w. IsSomeWord n (floor_divided (v *ℤ pos (2 ^ s)) w)) (to_z w64 (of_z w64 (at (pos 0) x k)))
      (to_z w64 (of_z w64 (at (pos 0) y k)))
  quotient_operands s all =
      let f = λ (a b : ℤ). floor_divided (a *ℤ pos (2 ^ s)) b in
      operands (λ v w. IsSomeWord n (f v w)) (side_of_all (IsSomeWord n) None f x y k g.many h.many lt all)

  pub product_next : (r : Round) (s : ℕ) (words : List ℤ) (made : ℤ) → FitsSigned w64 made
      → made ≡ rounded r (to_z w64 (of_z w64 (at (pos 0) x k)) *ℤ to_z w64 (of_z w64 (at (pos 0) y k))) (pos s)
      → AreProducts r s x y k words → AreProducts r s x y (k + 1) (slice_set words k (to_z w64 (of_z w64 made)))
  product_next r s words made f e filled =
      filled_next (λ i z. z ≡ rounded r (at (pos 0) x i *ℤ at (pos 0) y i) (pos s)) k words _ lt filled
      (to_z-of_z w64 made f ∙ e
      ∙ ap₂ (λ a b. rounded r (a *ℤ b) (pos s)) (passed n x k le g lt) (passed n y k le h lt))

  pub quotient_next : (s : ℕ) (words : List ℤ) (made : ℤ) → FitsSigned w64 made
      → floor_divided (to_z w64 (of_z w64 (at (pos 0) x k)) *ℤ pos (2 ^ s)) (to_z w64 (of_z w64 (at (pos 0) y k)))
      ≡ Some made
      → AreQuotients s x y k words → AreQuotients s x y (k + 1) (slice_set words k (to_z w64 (of_z w64 made)))
  quotient_next s words made f e filled =
      filled_next (λ i z. floor_divided (at (pos 0) x i *ℤ pos (2 ^ s)) (at (pos 0) y i) ≡ Some z) k words _ lt filled
      (ap₂ (λ a b. floor_divided (a *ℤ pos (2 ^ s)) b) (sym (passed n x k le g lt)) (sym (passed n y k le h lt)) ∙ e
      ∙ ap Some (sym (to_z-of_z w64 made f)))

-- ---- all of them
module _ {n : ℕ} {x y : List ℤ} (g : AreLanes n x) (h : AreLanes n y) (s k : ℕ) (z : List ℤ) (le : 16 ≤ k) where
  pub products_made : (r : Round) → AreProducts r s x y k z → z ≡ multiplied r s x y
  products_made r filled =
      let f = λ (a b : ℤ). rounded r (a *ℤ b) (pos s) in
      ext_get_or (pos 0) z (multiplied r s x y) (filled.many ∙ sym (sides_many f x y g.many h.many))
      (λ i lt. let l : i < 16 = omega (arith, filled.many) in
      filled.each i (omega (arith, le)) ∙ sym (side_at f x y i (pos 0) g.many h.many l))

  pub quotients_made : AreQuotients s x y k z → map (λ q. Some q) z ≡ divided s x y
  quotients_made filled =
      let f = λ (a b : ℤ). floor_divided (a *ℤ pos (2 ^ s)) b in
      ext_get_or None (map (λ q. Some q) z) (divided s x y) (length-map z (λ q. Some q) ∙ filled.many
      ∙ sym (sides_many f x y g.many h.many))
      (λ i lt. let l : i < 16 = omega (arith, length-map z (λ (q : ℤ). Some q), filled.many) in
      at_map_any (λ (q : ℤ). Some q) z i (pos 0) None (omega (arith, filled.many))
      ∙ sym (filled.each i (omega (arith, le))) ∙ sym (side_at f x y i None g.many h.many l))

  pub quotients_words : AreQuotients s x y k z → All (IsSomeWord n) (divided s x y) → AreLanes n z
  quotients_words filled fits =
      let f = λ (a b : ℤ). floor_divided (a *ℤ pos (2 ^ s)) b in
      record {
        many = filled.many;
        words = All-from_get_or (IsWord n) z (pos 0) (λ i lt. let l : i < 16 = omega (arith, filled.many) in
            subst (IsSomeWord n) (filled.each i (omega (arith, le)))
            (side_of_all (IsSomeWord n) None f x y i g.many h.many l fits));
      }

-- ---- arrays of the words of two vectors
pub record Arrays (n : ℕ) (v w vs us : List ℤ) : Type 0 where
  pub left : AreLanes n v
  pub right : AreLanes n w
  pub left_is : v ≡ vs
  pub right_is : w ≡ us

pub arrays : {n : ℕ} {v w xs ys vs us : List ℤ} → v ≡ xs → w ≡ ys → xs ≡ vs → ys ≡ us → AreLanes n xs → AreLanes n ys →
    Arrays n v w vs us
arrays {n} ev ew e k g h = record {
  left = subst (AreLanes n) (sym ev) g;
  right = subst (AreLanes n) (sym ew) h;
  left_is = ev ∙ e;
  right_is = ew ∙ k;
}

module _ {n : ℕ} {v w vs us : List ℤ} (a : Arrays n v w vs us) (s : ℕ) where
  pub array_products : (r : Round) → All (IsWord n) (multiplied r s vs us) → All (IsWord n) (multiplied r s v w)
  array_products r all = subst (All (IsWord n)) (sym (ap₂ (multiplied r s) a.left_is a.right_is)) all

  pub array_quotients : All (IsSomeWord n) (divided s vs us) → All (IsSomeWord n) (divided s v w)
  array_quotients all = subst (All (IsSomeWord n)) (sym (ap₂ (divided s) a.left_is a.right_is)) all

  pub multiplied_is : (r : Round) {z : List ℤ} → z ≡ multiplied r s v w → All (IsWord n) (multiplied r s vs us) →
      Gives n z (multiplied r s vs us)
  multiplied_is r e all = gives n _ (multiplied r s vs us) (e ∙ ap₂ (multiplied r s) a.left_is a.right_is)
      (both_many (λ x y. rounded r (x *ℤ y) (pos s)) a.left_is a.right_is a.left.many a.right.many) all
