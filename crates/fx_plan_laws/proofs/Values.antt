-- Sizes of numbers without their signs, values of formulas, and what the word of a number loses.
use Rattle.std.proofs.Common.{◌≡◌, ℕ, Bool, true, false, if◌then◌else◌, [], ◌∷◌, ℤ, pos, negsuc, suc, ◌*ℤ◌, neg_ℤ, ◌≤ℤ◌, refl, arith}
use Rattle.std.specs.Prelude.{unsigned_abs}
use Rattle.std.proofs.lemmas.Int.{ints}
use Rattle.fx_rational.proofs.Order.{mul_le_right}
use Rattle.fx_rational.specs.Rational.{Rational, bottom, plus, minus, negative, scaled, floor, Equal, AtMost, is_at_most}
use Rattle.fx_rational.proofs.Ring.{by_quotes, quotes}
use Rattle.fx_rational.proofs.Laws.{equal_refl, equal_sym, equal_trans, le_refl, le_trans, le_of_equal, minus_same, Nonneg, nonneg_from, negative_le, gap, ordered, nonneg_plus}
use Rattle.fx_rational.proofs.Powers.{unit}
use Rattle.fx_rational.proofs.Tests.{at_most_true, at_most_false}
use Rattle.fx_model.specs.Machine.{word_value}
use Rattle.fx_bounds.proofs.Words.{word_at_is, word_is}
use Rattle.fx_bounds.proofs.Roundoffs.{Lost, input_lost}
use Rattle.fx_inequalities.specs.Formula.{Formula, Sum, Difference, formula_value, word_at}
use Rattle.fx_plan_laws.specs.Powers.{magnitude, greater}

-- ---- magnitudes
size_above : (t : ℤ) (b : ℕ) → (t *ℤ pos b) ≤ℤ (pos (unsigned_abs t) *ℤ pos b)
size_above (pos n) b = omega (arith, ints)
size_above (negsuc n) b = omega (arith, ints)

size_below : (t : ℤ) (b : ℕ) → (neg_ℤ (pos (unsigned_abs t)) *ℤ pos b) ≤ℤ (t *ℤ pos b)
size_below (pos n) b =
    mul_le_right {c = pos b} (let l : neg_ℤ (pos n) ≤ℤ pos n = omega (arith, ints) in l) (omega (arith, ints))
size_below (negsuc n) b =
    mul_le_right {c = pos b} (let l : neg_ℤ (pos (suc n)) ≤ℤ negsuc n = omega (arith, ints) in l) (omega (arith, ints))

pub magnitude_above : (q : Rational) → AtMost q (magnitude q)
magnitude_above q = record { at_most = size_above q.top (bottom q) }

pub magnitude_below : (q : Rational) → AtMost (negative (magnitude q)) q
unfolding negative
magnitude_below q = record { at_most = size_below q.top (bottom q) }

-- what has a magnitude of at most p lies from -p to p
pub from_magnitude_low : {q p : Rational} → AtMost (magnitude q) p → AtMost (negative p) q
from_magnitude_low {q} {p} h = le_trans (negative_le h) (magnitude_below q)

pub from_magnitude_high : {q p : Rational} → AtMost (magnitude q) p → AtMost q p
from_magnitude_high {q} {p} h = le_trans (magnitude_above q) h

pub magnitude_nonneg : (q : Rational) → Nonneg (magnitude q)
magnitude_nonneg q = nonneg_from (omega (arith, ints))

-- ---- the greater of two
pub greater_left : (x y : Rational) → AtMost x (greater x y)
greater_left x y = by (is_at_most y x) refl
  where
    by : (t : Bool) → is_at_most y x ≡ t → AtMost x (if t then x else y)
    by true e = le_refl x
    by false e = at_most_false y x e

pub greater_right : (x y : Rational) → AtMost y (greater x y)
greater_right x y = by (is_at_most y x) refl
  where
    by : (t : Bool) → is_at_most y x ≡ t → AtMost y (if t then x else y)
    by true e = at_most_true y x e
    by false e = le_refl y

-- ---- formulas
pub sum_value : (a b : Formula) → formula_value (Sum a b) ≡ plus (formula_value a) (formula_value b)
unfolding formula_value
sum_value a b = refl

pub difference_value : (a b : Formula) → formula_value (Difference a b) ≡ minus (formula_value a) (formula_value b)
unfolding formula_value
difference_value a b = refl

-- ---- words
same_word_value : (w f : ℤ) → Equal (formula_value (word_at w f)) (word_value w f)
same_word_value w f = equal_trans (word_at_is w f) (equal_sym (word_is w f))

-- the word of a number at point f is less than a unit below it
pub lost_word : (c : Rational) (f : ℤ) → Lost (unit f) (minus (formula_value (word_at (floor (scaled c f)) f)) c)
lost_word c f =
    let h = input_lost c f in
    let e = minus_same (same_word_value (floor (scaled c f)) f) (equal_refl c) in
    record { low = le_trans h.low (le_of_equal (equal_sym e)); high = le_trans (le_of_equal e) h.high }

-- a word less a unit isn't above its number, and a unit more isn't below
pub less_unit : (v u c : Rational) → Nonneg u → Lost u (minus v c) → AtMost (minus v u) c
less_unit v u c n h =
    ordered (nonneg_plus (gap h.high) n)
    (by_quotes {ρ = v ∷ u ∷ c ∷ []} (search quotes depth 20) (search quotes depth 20) refl)

pub more_unit : (v u c : Rational) → Lost u (minus v c) → AtMost c (minus v (negative u))
more_unit v u c h =
    ordered (gap h.low) (by_quotes {ρ = v ∷ u ∷ c ∷ []} (search quotes depth 20) (search quotes depth 20) refl)
