-- The bounds of a linear tree are at most what its terms are worth, and some units for each term.
use Rattle.std.proofs.Common.{◌≡◌, ℕ, ◌+◌, ◌-◌, ◌*◌, ◌^◌, ◌<◌, ◌≤◌, true, List, [], ◌∷◌, ◌++◌, length, pos, refl, sym, subst, arith, pow_pos, length-append}
use Rattle.std.proofs.lemmas.Bool.{and_parts}
use Rattle.fx_rational.specs.Rational.{Rational, whole, plus, times, is_at_most, AtMost, Equal}
use Rattle.fx_rational.proofs.Ring.{by_quotes, quotes}
use Rattle.fx_rational.proofs.Laws.{equal_refl, equal_sym, equal_trans, le_refl, le_trans, le_of_equal, plus_le, gap, ordered, times_same, plus_same}
use Rattle.fx_rational.proofs.Tests.{at_most_true}
use Rattle.fx_rational.proofs.Powers.{power}
use Rattle.fx_model.specs.Tree as tree
use Rattle.fx_model.specs.Tree.{Tree, at}
use Rattle.fx_model.specs.Function as function
use Rattle.fx_model.specs.Valid.{RefersBelow}
use Rattle.fx_inequalities.specs.NodeConditions.{no_input}
use Rattle.fx_plan_laws.specs.Powers.{magnitude, power_value}
use Rattle.fx_plan_laws.proofs.Powers.{whole_value_is}
use Rattle.fx_plan_laws.proofs.Values.{magnitude_nonneg}
use Rattle.fx_plan_laws.specs.Bounds.{Bound, input_bound, const_bound, sum_bound, product_bound, units_up}
use Rattle.fx_plan_laws.specs.Calm.{Numbers, reach_of}
use Rattle.fx_plan_laws.specs.Linear.{is_scaled, is_linear, Term, Alone, OfInput, OfState, scaled_term, terms_of, total, are_literals_below}
use Rattle.fx_plan_laws.proofs.Factors.{HasRoom, IsRoomyInput, IsFactor, IsProduct, input_factor, state_factor, left_product, right_product, naturals_le, natural_sum, whole_nonneg}
use Rattle.fx_plan_laws.proofs.Rounded.{units_below}
use Rattle.fx_plan_laws.proofs.TreeBound.{tree_bound}

-- ---- sums over terms
pub total_append : (w : Term → Rational) (xs ys : List Term) →
    Equal (total w (xs ++ ys)) (plus (total w xs) (total w ys))
total_append w [] ys =
    by_quotes {ρ = total w ys ∷ []} {a = total w ys} (search quotes depth 20) (search quotes depth 20) refl
total_append w (x ∷ xs) ys =
    equal_trans (plus_same (equal_refl (w x)) (total_append w xs ys))
    (by_quotes {ρ = w x ∷ total w xs ∷ total w ys ∷ []} (search quotes depth 20) (search quotes depth 20) refl)

-- r is at most p times what the terms are worth, and s for each
pub record IsTotalWithin (p : Rational) (w : Term → Rational) (s : ℕ) (xs : List Term) (r : ℕ) : Type 0 where
  pub within : AtMost (whole (pos r)) (plus (times p (total w xs)) (whole (pos (length xs * s))))

pub one_within : (p : Rational) (w : Term → Rational) (s : ℕ) (x : Term) (r : ℕ) →
    AtMost (whole (pos r)) (plus (times p (w x)) (whole (pos s))) → IsTotalWithin p w s (x ∷ []) r
one_within p w s x r h =
    record {
      within =
          le_trans h (le_of_equal
          (plus_same (times_same (equal_refl p)
          (by_quotes {ρ = w x ∷ []} {a = w x} (search quotes depth 20) (search quotes depth 20) refl)) (subst
          (λ (k : ℕ). Equal (whole (pos s)) (whole (pos k))) (once s) (equal_refl _))));
    }
  where
    once : (s : ℕ) → s ≡ 1 * s
    once s = omega arith

pub both_within : {p : Rational} {w : Term → Rational} {s : ℕ} (xs ys : List Term) (r t : ℕ) → IsTotalWithin p w s xs r →
    IsTotalWithin p w s ys t → IsTotalWithin p w s (xs ++ ys) (r + t)
both_within {p} {w} {s} xs ys r t h g = record {
  within =
      le_trans (le_of_equal (natural_sum r t)) (le_trans (plus_le h.within g.within)
      (le_of_equal (equal_trans
      (by_quotes {ρ = p ∷ total w xs ∷ total w ys ∷ whole (pos (length xs * s)) ∷ whole (pos (length ys * s))
      ∷ []} {b =
      plus (times p (plus (total w xs) (total w ys)))
      (plus (whole (pos (length xs * s))) (whole (pos (length ys * s))))} (search quotes depth 20)
      (search quotes depth 20) refl)
      (plus_same (times_same (equal_refl p) (equal_sym (total_append w xs ys)))
      (equal_trans (equal_sym (natural_sum (length xs * s) (length ys * s)))
      (subst (λ (k : ℕ). Equal (whole (pos (length xs * s + length ys * s))) (whole (pos (k * s))))
      (sym (length-append xs ys))
      (subst (λ (k : ℕ). Equal (whole (pos (length xs * s + length ys * s))) (whole (pos k)))
      (spread (length xs) (length ys) s) (equal_refl _))))))));
}
  where
    spread : (a b s : ℕ) → a * s + b * s ≡ (a + b) * s
    spread a b s = omega arith

-- ---- what a term is worth
-- to the range: its size times what its input or state reaches
abbrev pub range_worth : Numbers → List function.Input → Term → Rational
range_worth c is (Alone s) = s
range_worth c is (OfInput k s) = times s (reach_of (at no_input is k))
range_worth c is (OfState k s) = times s (power (c.q + 2))

-- to the error, in units: its size times the error of its input or state
abbrev pub error_worth : Numbers → ℕ → Term → Rational
error_worth c y (Alone s) = whole (pos 0)
error_worth c y (OfInput k s) = times s (power y)
error_worth c y (OfState k s) = times s (power (c.p + 4 + y))

-- so many units more for each term
abbrev pub range_roundoff : Numbers → ℕ
range_roundoff c = 2 ^ (c.m + 1)

abbrev pub error_roundoff : Numbers → ℕ → ℕ
error_roundoff c y = 2 ^ c.m + 2 ^ (y + 3)

-- ---- trees
pub record IsBounded (c : Numbers) (y : ℕ) (is : List function.Input) (xs : List Term) (b : Bound) : Type 0 where
  pub range : IsTotalWithin (power c.f) (range_worth c is) (range_roundoff c) xs b.r
  pub error : IsTotalWithin (whole (pos 1)) (error_worth c y) (error_roundoff c y) xs b.e

module _ (c : Numbers) (y : ℕ) (is : List function.Input) (room : HasRoom c y) (roomy : (k : ℕ) → k < length is →
    IsRoomyInput c (at no_input is k)) where
  some_range : 1 ≤ range_roundoff c
  some_range = pow_pos (c.m + 1)

  some_error : 1 ≤ error_roundoff c y
  some_error = let p = pow_pos c.m in omega (arith, p)

  of_input : (j : ℕ) → j < length is →
      IsFactor c y (input_bound c.f (at no_input is j)) (reach_of (at no_input is j)) (power y)
  of_input j lt = input_factor c y (at no_input is j) room (roomy j lt)

  -- a factor that stands alone
  bare : (x : Term) (b : Bound) (w e : Rational) → IsFactor c y b w e →
      Equal (range_worth c is x) (times (whole (pos 1)) w) → Equal (error_worth c y x) (times (whole (pos 1)) e) →
      IsBounded c y is (x ∷ []) b
  bare x b w e h p q = record {
    range = one_within (power c.f) (range_worth c is) (range_roundoff c) x b.r
        (le_trans h.range (plus_le
        (le_of_equal (equal_trans
        (by_quotes {ρ = w ∷ power c.f ∷ []} {b = times (power c.f) (times (whole (pos 1)) w)}
        (search quotes depth 20) (search quotes depth 20) refl) (times_same (equal_refl (power c.f))
        (equal_sym p)))) (naturals_le some_range)));
    error = one_within (whole (pos 1)) (error_worth c y) (error_roundoff c y) x b.e
        (le_trans h.error (ordered (whole_nonneg (error_roundoff c y))
        (equal_trans (plus_minus q)
        (by_quotes {ρ = e ∷ whole (pos (error_roundoff c y)) ∷ []} (search quotes depth 20)
        (search quotes depth 20) refl))));
  }
    where
      plus_minus : Equal (error_worth c y x) (times (whole (pos 1)) e) →
          Equal (Rattle.fx_rational.specs.Rational.minus
          (plus (times (whole (pos 1)) (error_worth c y x)) (whole (pos (error_roundoff c y)))) e)
          (Rattle.fx_rational.specs.Rational.minus
          (plus (times (whole (pos 1)) (times (whole (pos 1)) e)) (whole (pos (error_roundoff c y)))) e)
      plus_minus q =
          Rattle.fx_rational.proofs.Laws.minus_same (plus_same (times_same (equal_refl _) q) (equal_refl _))
          (equal_refl e)

  -- a product
  scaled : (x : Term) (b : Bound) (s w e : Rational) → IsProduct c y b s w e → Equal (range_worth c is x) (times s w) →
      Equal (error_worth c y x) (times s e) → IsBounded c y is (x ∷ []) b
  scaled x b s w e h p q = record {
    range =
        one_within (power c.f) (range_worth c is) (range_roundoff c) x b.r
        (le_trans h.range (plus_le (le_of_equal (times_same (equal_refl (power c.f)) (equal_sym p))) (le_refl _)));
    error =
        one_within (whole (pos 1)) (error_worth c y) (error_roundoff c y) x b.e
        (le_trans h.error (plus_le
        (le_of_equal (equal_trans (equal_sym q)
        (by_quotes {ρ = error_worth c y x ∷ []} {a = error_worth c y x} {b = times (whole (pos 1)) (error_worth c y x)}
        (search quotes depth 20) (search quotes depth 20) refl))) (le_refl _)));
  }

  alone : (x : Rational) → IsBounded c y is (Alone (magnitude x) ∷ []) (const_bound c.f x)
  alone x = record {
    range = one_within (power c.f) (range_worth c is) (range_roundoff c) (Alone (magnitude x)) (units_up c.f (magnitude x))
        (le_trans (units_below c.f (magnitude x) (magnitude_nonneg x))
        (plus_le (le_of_equal (by_quotes {ρ = magnitude x ∷ power c.f ∷ []} (search quotes depth 20)
        (search quotes depth 20) refl)) (naturals_le some_range)));
    error = one_within (whole (pos 1)) (error_worth c y) (error_roundoff c y) (Alone (magnitude x)) 1
        (ordered (gap (naturals_le some_error))
        (by_quotes {ρ = whole (pos (error_roundoff c y)) ∷ []} (search quotes depth 20) (search quotes depth 20) refl));
  }

  literal_small : (x : Rational) → is_at_most (magnitude x) (power_value (pos (c.m - 1))) ≡ true →
      AtMost (magnitude x) (power (c.m - 1))
  literal_small x e =
      le_trans (at_most_true (magnitude x) (power_value (pos (c.m - 1))) e) (le_of_equal (whole_value_is (c.m - 1)))

  -- a literal by a factor, from either side
  left_scaled : {b : Bound} {w e : Rational} (x : Rational) (t : Term) →
      is_at_most (magnitude x) (power_value (pos (c.m - 1))) ≡ true → IsFactor c y b w e →
      Equal (range_worth c is t) (times (magnitude x) w) → Equal (error_worth c y t) (times (magnitude x) e) →
      IsBounded c y is (t ∷ []) (product_bound c.f (const_bound c.f x) b)
  left_scaled {b} {w} {e} x t l h p q =
      scaled t _ (magnitude x) w e (left_product c y room x b w e (literal_small x l) h) p q

  right_scaled : {b : Bound} {w e : Rational} (x : Rational) (t : Term) →
      is_at_most (magnitude x) (power_value (pos (c.m - 1))) ≡ true → IsFactor c y b w e →
      Equal (range_worth c is t) (times (magnitude x) w) → Equal (error_worth c y t) (times (magnitude x) e) →
      IsBounded c y is (t ∷ []) (product_bound c.f b (const_bound c.f x))
  right_scaled {b} {w} {e} x t l h p q =
      scaled t _ (magnitude x) w e (right_product c y room x b w e (literal_small x l) h) p q

  product_bounded : (i k m : ℕ) (a b : Tree) → length is ≡ i → is_scaled a b ≡ true → RefersBelow i k m a →
      RefersBelow i k m b → are_literals_below (power_value (pos (c.m - 1))) a ≡ true →
      are_literals_below (power_value (pos (c.m - 1))) b ≡ true →
      IsBounded c y is (scaled_term a b ∷ []) (product_bound c.f (tree_bound c is a) (tree_bound c is b))
  product_bounded i k m (tree.Literal x) (tree.Input j) n e ra rb la lb =
      left_scaled x (OfInput j (magnitude x)) la (of_input j (omega (arith, n, rb))) (equal_refl _) (equal_refl _)
  product_bounded i k m (tree.Literal x) (tree.State j) n e ra rb la lb =
      left_scaled x (OfState j (magnitude x)) la (state_factor c y room) (equal_refl _) (equal_refl _)
  product_bounded i k m (tree.Input j) (tree.Literal x) n e ra rb la lb =
      right_scaled x (OfInput j (magnitude x)) lb (of_input j (omega (arith, n, ra))) (equal_refl _) (equal_refl _)
  product_bounded i k m (tree.State j) (tree.Literal x) n e ra rb la lb =
      right_scaled x (OfState j (magnitude x)) lb (state_factor c y room) (equal_refl _) (equal_refl _)
  product_bounded i k m a b n e ra rb la lb = absurd cc

  both_bounded : (xs ys : List Term) (a b : Bound) → IsBounded c y is xs a → IsBounded c y is ys b →
      IsBounded c y is (xs ++ ys) (sum_bound a b)
  both_bounded xs ys a b h g = record {
    range = both_within xs ys a.r b.r h.range g.range;
    error = both_within xs ys a.e b.e h.error g.error;
  }

  pub tree_bounded : (i k m : ℕ) (t : Tree) → length is ≡ i → is_linear t ≡ true → RefersBelow i k m t →
      are_literals_below (power_value (pos (c.m - 1))) t ≡ true → IsBounded c y is (terms_of t) (tree_bound c is t)
  tree_bounded i k m (tree.Literal x) n e r l = alone x
  tree_bounded i k m (tree.Input j) n e r l =
      bare (OfInput j (whole (pos 1))) _ _ _ (of_input j (omega (arith, n, r))) (equal_refl _) (equal_refl _)
  tree_bounded i k m (tree.State j) n e r l =
      bare (OfState j (whole (pos 1))) _ _ _ (state_factor c y room) (equal_refl _) (equal_refl _)
  tree_bounded i k m (tree.Temp j) n e r l = absurd cc
  tree_bounded i k m (tree.Negation a) n e r l = tree_bounded i k m a n e r l
  tree_bounded i k m (tree.Sum a b) n e r l =
      let p = and_parts _ _ e in let q = and_parts _ _ l in
      both_bounded (terms_of a) (terms_of b) (tree_bound c is a) (tree_bound c is b)
      (tree_bounded i k m a n p.0 r.0 q.0) (tree_bounded i k m b n p.1 r.1 q.1)
  tree_bounded i k m (tree.Difference a b) n e r l =
      let p = and_parts _ _ e in let q = and_parts _ _ l in
      both_bounded (terms_of a) (terms_of b) (tree_bound c is a) (tree_bound c is b)
      (tree_bounded i k m a n p.0 r.0 q.0) (tree_bounded i k m b n p.1 r.1 q.1)
  tree_bounded i k m (tree.Product a b) n e r l =
      let q = and_parts _ _ l in product_bounded i k m a b n e r.0 r.1 q.0 q.1
  tree_bounded i k m (tree.Quotient a b) n e r l = absurd cc
