-- What floors, shifts and quotients of words lose.
use Rattle.std.proofs.Common.{◌≡◌, ℕ, zero, suc, ◌^◌, ◌<◌, refl, pos, negsuc, ℤ, ◌+ℤ◌, ◌-ℤ◌, ◌*ℤ◌, neg_ℤ, ◌≤ℤ◌, ◌<ℤ◌, [], ◌∷◌, arith, pow_pos, subst, Some}
use Rattle.std.specs.Prelude.{int_div}
use Rattle.std.specs.Int.RustNames.{int_rem, unsigned_abs}
use Rattle.std.proofs.lemmas.Int.{ints, quot-rem, rem_below}
use Rattle.fx_rational.proofs.Quote as int
use Rattle.fx_rational.specs.Rational.{Rational, whole, over, plus, negative, minus, times, scaled, floor, floor_div, Equal, AtMost}
use Rattle.fx_model.specs.Machine.{Round, Floor, Nearest, word_value, shifted, rounded, floor_divided}
use Rattle.fx_inequalities.specs.Formula.{Num, formula_value, roundoff_at, Within}
use Rattle.fx_inequalities.specs.OperationSpans.{roundoff_of}
use Rattle.fx_rational.specs.Dyadic.{dyadic_value}
use Rattle.fx_rational.proofs.Ring.{by_quotes, quotes}
use Rattle.fx_rational.proofs.Laws.{equal_refl, equal_sym, equal_trans, le_trans, le_of_equal, Nonneg, gap, ordered, times_same, plus_same, minus_same, negative_same, times_le}
use Rattle.fx_rational.proofs.Quotient.{Above, above_nonneg, whole_above, le_of_times, times_cancel}
use Rattle.fx_rational.proofs.Powers.{power, power_above, unit, unit_above, unit_sum, unit_power, unit_left, whole_sum, whole_difference, whole_product, whole_le, scaled_back}
use Rattle.fx_bounds.proofs.Words.{word_is, word_sum, word_product, unit_at_is, minus_unit_is}
use Rattle.fx_rational.proofs.Floors.{Floors, floor_floors, floor_is}

-- between -u and 0
pub record Lost (u x : Rational) : Type 0 where
  pub low : AtMost (negative u) x
  pub high : AtMost x (whole (pos 0))

pub lost_same : {u x y : Rational} → Equal x y → Lost u x → Lost u y
lost_same e h = record { low = le_trans h.low (le_of_equal e); high = le_trans (le_of_equal (equal_sym e)) h.high }

pub floor_lost : (q f : ℤ) (x : Rational) → Floors q x →
    Lost (unit f) (minus (times (whole q) (unit f)) (times x (unit f)))
floor_lost q f x h =
    let u = unit f in let low = times_le {z = u} h.low (above_nonneg (unit_above f)) in
    let high = times_le {z = u} h.high (above_nonneg (unit_above f)) in
    record {
      low =
          ordered (gap high) (by_quotes {ρ = whole q ∷ x ∷ u ∷ []} (search quotes depth 20)
          (search quotes depth 20) refl);
      high =
          ordered (gap low) (by_quotes {ρ = whole q ∷ x ∷ u ∷ []} (search quotes depth 20)
          (search quotes depth 20) refl);
    }

-- the word of an input
pub input_lost : (g : Rational) (f : ℤ) → Lost (unit f) (minus (word_value (floor (scaled g f)) f) g)
input_lost g f =
    lost_same (minus_same (equal_sym (word_is (floor (scaled g f)) f)) (scaled_back g f))
    (floor_lost (floor (scaled g f)) f (scaled g f) (floor_floors (scaled g f)))

-- a shift to the right
shift_floors : (w : ℤ) (s : ℕ) → Floors (floor_div w (2 ^ s)) (times (whole w) (unit (pos s)))
shift_floors w s =
    let q = floor_div w (2 ^ s) in let h = floor_is w (2 ^ s) (pow_pos s) in
    let p = h.not_above in let g = h.greatest in
    let back : Equal (times (times (whole w) (unit (pos s))) (power s)) (whole w) =
    equal_trans (by_quotes {ρ = whole w ∷ unit (pos s) ∷ power s
    ∷ []} {b =
    times (whole w) (times (unit (pos s)) (power s))} (search quotes depth 20) (search quotes depth 20) refl)
    (equal_trans (times_same (equal_refl (whole w)) (unit_power s))
    (by_quotes {ρ = whole w ∷ []} (search quotes depth 20) (search quotes depth 20) refl)) in
    let more : w ≤ℤ ((q +ℤ pos 1) *ℤ pos (2 ^ s)) = next q w (pos (2 ^ s)) g in
    record {
      low =
          le_of_times (power_above s)
          (le_trans (le_of_equal (equal_sym (whole_product q (pos (2 ^ s)))))
          (le_trans (whole_le p) (le_of_equal (equal_sym back))));
      high =
          le_of_times (power_above s)
          (le_trans (le_of_equal back)
          (le_trans (whole_le more)
          (le_of_equal (equal_trans (whole_product (q +ℤ pos 1) (pos (2 ^ s)))
          (times_same (whole_sum q (pos 1)) (equal_refl (power s)))))));
    }
  where
    next : (q w d : ℤ) → w <ℤ (q *ℤ d +ℤ d) → w ≤ℤ ((q +ℤ pos 1) *ℤ d)
    next q w d h =
        let e : (q +ℤ pos 1) *ℤ d ≡ q *ℤ d +ℤ d =
        int.by_quotes {ρ = q ∷ d ∷ []} (search int.quotes depth 20) (search int.quotes depth 20) refl in
        omega (arith, ints)

pub right_lost : (w f p : ℤ) (s : ℕ) → f ≡ p -ℤ pos s →
    Lost (unit f) (minus (word_value (floor_div w (2 ^ s)) f) (word_value w p))
right_lost w f p s e =
    let sum : p ≡ f +ℤ pos s = omega (arith, ints) in
    lost_same (minus_same (equal_sym (word_is (floor_div w (2 ^ s)) f)) (rw sum
    (equal_trans (by_quotes {ρ = whole w ∷ unit (pos s) ∷ unit f
    ∷ []} {b =
    times (whole w) (times (unit f) (unit (pos s)))} (search quotes depth 20) (search quotes depth 20) refl)
    (equal_trans (times_same (equal_refl (whole w)) (equal_sym (unit_sum f (pos s))))
    (equal_sym (word_is w (f +ℤ pos s)))))))
    (floor_lost (floor_div w (2 ^ s)) f (times (whole w) (unit (pos s))) (shift_floors w s))

-- a shift to the left loses nothing
left_is : (w f p : ℤ) (s : ℕ) → f ≡ p +ℤ pos s → Equal (word_value (w *ℤ pos (2 ^ s)) f) (word_value w p)
left_is w f p s e =
    let sum : Equal (unit f) (times (unit p) (unit (pos s))) = rw e (unit_sum p (pos s)) in
    equal_trans (word_is (w *ℤ pos (2 ^ s)) f) (equal_trans (times_same (whole_product w (pos (2 ^ s))) sum)
    (equal_trans (by_quotes {ρ = whole w ∷ power s ∷ unit p ∷ unit (pos s)
    ∷ []} {b =
    times (times (whole w) (unit p)) (times (unit (pos s)) (power s))} (search quotes depth 20)
    (search quotes depth 20) refl)
    (equal_trans (times_same (equal_sym (word_is w p)) (unit_power s))
    (by_quotes {ρ = word_value w p ∷ []} (search quotes depth 20) (search quotes depth 20) refl))))

pub same_is : (w : ℤ) → floor_div w (2 ^ 0) ≡ w
same_is w = let h = floor_is w 1 (omega arith) in let p = h.not_above in let q = h.greatest in omega (arith, ints)

same_word : {x y : Rational} → Equal x y → Equal (minus x y) (whole (pos 0))
same_word {x} {y} e =
    equal_trans (minus_same e (equal_refl y))
    (by_quotes {ρ = y ∷ []} (search quotes depth 20) (search quotes depth 20) refl)

pub within_zero : {x : Rational} → Equal x (whole (pos 0)) →
    Within (record { lo = Num record { m = pos 0; e = 0 }; hi = Num record { m = pos 0; e = 0 } }) x
unfolding formula_value dyadic_value over
within_zero h = record { low = le_of_equal (equal_sym h); high = le_of_equal h }

lost_within : (f : ℤ) (s : ℕ) (x : Rational) → Lost (unit f) x → Within (roundoff_at f (pos (suc s))) x
unfolding formula_value dyadic_value over
lost_within f s x h = record { low = le_trans (le_of_equal (minus_unit_is f)) h.low; high = h.high }

-- what a shift by s adds to the value
pub within_roundoff : (w f p s : ℤ) → f ≡ p -ℤ s →
    Within (roundoff_at f s) (minus (word_value (shifted w s) f) (word_value w p))
within_roundoff w f p (pos zero) e =
    let k : f ≡ p = omega (arith, ints) in within_zero (same_word (rw (k, same_is w) (equal_refl (word_value w p))))
within_roundoff w f p (pos (suc s)) e = lost_within f s _ (right_lost w f p (suc s) e)
within_roundoff w f p (negsuc s) e = within_zero (same_word (left_is w f p (suc s) (omega (arith, ints))))

-- between -u and u
pub record Truncated (u x : Rational) : Type 0 where
  pub low : AtMost (negative u) x
  pub high : AtMost x u

-- ---- to the nearest
-- half a unit at point p is a unit at the next
half_word : (p : ℤ) (t : ℕ) (f : ℤ) → p ≡ (f +ℤ pos 1) +ℤ pos t → Equal (word_value (pos (2 ^ t)) p) (unit (f +ℤ pos 1))
half_word p t f e =
    let one : pos 1 *ℤ pos (2 ^ t) ≡ pos (2 ^ t) =
    int.by_quotes {ρ = pos (2 ^ t) ∷ []} (search int.quotes depth 20) (search int.quotes depth 20) refl in
    equal_trans (rw (← one) (left_is (pos 1) p (f +ℤ pos 1) t e))
    (equal_trans (word_is (pos 1) (f +ℤ pos 1))
    (by_quotes {ρ = unit (f +ℤ pos 1) ∷ []} (search quotes depth 20) (search quotes depth 20) refl))

-- a unit is two halves
two_halves : (f : ℤ) → Equal (unit f) (times (whole (pos 2)) (unit (f +ℤ pos 1)))
two_halves f =
    let back : (f +ℤ pos 1) +ℤ negsuc 0 ≡ f = omega (arith, ints) in
    let h = unit (f +ℤ pos 1) in
    equal_trans (subst (λ (k : ℤ). Equal (unit k) (times h (unit (negsuc 0)))) back (unit_sum (f +ℤ pos 1) (negsuc 0)))
    (equal_trans (times_same (equal_refl h) (equal_sym (unit_left 0)))
    (by_quotes {ρ = h ∷ []} {a = times h (whole (pos 2))} (search quotes depth 20) (search quotes depth 20) refl))

-- x lies from y - h to y + h, where it is the floor at a unit of 2 h of y + h
centred : (u h x y : Rational) → Equal u (times (whole (pos 2)) h) → Lost u (minus x (plus y h)) →
    Truncated h (minus x y)
centred u h x y two l =
    let low : AtMost (negative (times (whole (pos 2)) h)) (minus x (plus y h)) =
    le_trans (le_of_equal (negative_same (equal_sym two))) l.low in
    record {
      low = ordered (gap low) (by_quotes {ρ = x ∷ y ∷ h ∷ []} (search quotes depth 20) (search quotes depth 20) refl);
      high =
          ordered (gap l.high) (by_quotes {ρ = x ∷ y ∷ h ∷ []} (search quotes depth 20) (search quotes depth 20) refl);
    }

-- what is 0 lies between
no_error : {u x : Rational} → Above u → Equal x (whole (pos 0)) → Truncated u x
no_error {u} {x} above e =
    let u_nonneg = above_nonneg above in
    record {
      low =
          le_trans (ordered u_nonneg (by_quotes {ρ = u ∷ []} (search quotes depth 20) (search quotes depth 20) refl))
          (le_of_equal (equal_sym e));
      high =
          le_trans (le_of_equal e)
          (ordered u_nonneg (by_quotes {ρ = u ∷ []} (search quotes depth 20) (search quotes depth 20) refl));
    }

-- what a shift by s to the nearest adds to the value: at most half a unit
nearest_lost : (w f p s : ℤ) → f ≡ p -ℤ s →
    Truncated (unit (f +ℤ pos 1)) (minus (word_value (rounded Nearest w s) f) (word_value w p))
nearest_lost w f p (pos (suc t)) e =
    let x = word_value (rounded Nearest w (pos (suc t))) f in let y = word_value w p in let h = unit (f +ℤ pos 1) in
    let sum : Equal (word_value (w +ℤ pos (2 ^ t)) p) (plus y h) =
    equal_trans (word_sum w (pos (2 ^ t)) p) (plus_same (equal_refl y) (half_word p t f (omega (arith, ints)))) in
    centred (unit f) h x y (two_halves f)
    (lost_same (minus_same (equal_refl x) sum) (right_lost (w +ℤ pos (2 ^ t)) f p (suc t) e))
nearest_lost w f p (pos zero) e =
    let none : w +ℤ pos 0 ≡ w = omega (arith, ints) in let k : f ≡ p = omega (arith, ints) in
    no_error (unit_above (f +ℤ pos 1)) (rw none (same_word (rw (k, same_is w) (equal_refl (word_value w p)))))
nearest_lost w f p (negsuc s) e =
    let none : w +ℤ pos 0 ≡ w = omega (arith, ints) in
    no_error (unit_above (f +ℤ pos 1)) (rw none (same_word (left_is w f p (suc s) (omega (arith, ints)))))

-- what rounding w / 2^s adds to the value
pub within_rounding : (r : Round) (w f p s : ℤ) → f ≡ p -ℤ s →
    Within (roundoff_of r f s) (minus (word_value (rounded r w s) f) (word_value w p))
within_rounding Floor w f p s e = within_roundoff w f p s e
within_rounding Nearest w f p s e =
    let h = nearest_lost w f p s e in
    record {
      low = le_trans (le_of_equal (minus_unit_is (f +ℤ pos 1))) h.low;
      high = le_trans h.high (le_of_equal (equal_sym (unit_at_is (f +ℤ pos 1))));
    }

-- what rounding a product adds to the product of the values
pub within_product_rounding : (r : Round) (v w f p q : ℤ) (s : ℕ) → f ≡ (p +ℤ q) -ℤ pos s →
    Within (roundoff_of r f (pos s))
    (minus (word_value (rounded r (v *ℤ w) (pos s)) f) (times (word_value v p) (word_value w q)))
within_product_rounding r v w f p q s e =
    let h = within_rounding r (v *ℤ w) f (p +ℤ q) (pos s) e in
    let k = minus_same (equal_refl (word_value (rounded r (v *ℤ w) (pos s)) f)) (word_product v w p q) in
    record { low = le_trans h.low (le_of_equal k); high = le_trans (le_of_equal (equal_sym k)) h.high }

-- ---- quotients of words

-- x differs by less than d from 0
remainder : (n d : ℤ) → (d ≡ pos 0 → ⊥) → (neg_ℤ (pos (unsigned_abs d)) ≤ℤ (int_div n d *ℤ d -ℤ n)) ×
    ((int_div n d *ℤ d -ℤ n) ≤ℤ pos (unsigned_abs d))
remainder n d h =
    let e = quot-rem n d in
    let r = rem_below n d (some d h) in
    go (int_div n d *ℤ d) (int_rem n d) n (unsigned_abs d) e r
  where
    some : (d : ℤ) → (d ≡ pos 0 → ⊥) → 0 < unsigned_abs d
    some (pos zero) h = absurd (h refl)
    some (pos (suc k)) h = omega arith
    some (negsuc k) h = omega arith

    go : (q r n : ℤ) (m : ℕ) → q +ℤ r ≡ n → unsigned_abs r < m → (neg_ℤ (pos m) ≤ℤ (q -ℤ n)) × ((q -ℤ n) ≤ℤ pos m)
    go q (pos r) n m e h = (omega (arith, ints), omega (arith, ints))
    go q (negsuc r) n m e h = (omega (arith, ints), omega (arith, ints))

-- E times d is r times u, with r between -d and d
truncated_from : (u e d r : Rational) → Above d → Nonneg u → Equal (times e d) (times r u) → AtMost (negative d) r →
    AtMost r d → Truncated u e
truncated_from u e d r above n same low high = record {
  low =
      le_of_times above (le_trans
      (le_of_equal (by_quotes {ρ = u ∷ d ∷ []} {b = times (negative d) u} (search quotes depth 20)
      (search quotes depth 20) refl)) (le_trans (times_le low n) (le_of_equal (equal_sym same))));
  high =
      le_of_times above (le_trans (le_of_equal same)
      (le_trans (times_le high n)
      (le_of_equal (by_quotes {ρ = u ∷ d ∷ []} {b = times u d} (search quotes depth 20)
      (search quotes depth 20) refl))));
}

-- t times w is the dividend at point f
ratio_back : (v w p q f : ℤ) (s : ℕ) (t : Rational) → f ≡ (p +ℤ pos s) -ℤ q →
    Equal (times t (word_value w q)) (word_value v p) →
    Equal (times t (whole w)) (times (whole (v *ℤ pos (2 ^ s))) (unit f))
ratio_back v w p q f s t e back =
    let sum : p +ℤ pos s ≡ f +ℤ q = omega (arith, ints) in
    let apart : Equal (unit (p +ℤ pos s)) (times (unit f) (unit q)) = rw sum (unit_sum f q) in
    times_cancel (unit_above q)
    (equal_trans (by_quotes {ρ = t ∷ whole w ∷ unit q ∷ []} {b = times t (times (whole w) (unit q))}
    (search quotes depth 20) (search quotes depth 20) refl)
    (equal_trans (times_same (equal_refl t) (equal_sym (word_is w q)))
    (equal_trans back
    (equal_trans (equal_sym (left_is v (p +ℤ pos s) p s refl))
    (equal_trans (word_is (v *ℤ pos (2 ^ s)) (p +ℤ pos s))
    (equal_trans (times_same (equal_refl (whole (v *ℤ pos (2 ^ s)))) apart)
    (by_quotes {ρ = whole (v *ℤ pos (2 ^ s)) ∷ unit f ∷ unit q ∷ []} (search quotes depth 20)
    (search quotes depth 20) refl)))))))

minus_zero : (u e d r : Rational) → Equal (times e d) (times r u) → Equal (times e (negative d)) (times (negative r) u)
minus_zero u e d r h =
    equal_trans (by_quotes {ρ = e ∷ d ∷ []} {b = minus (whole (pos 0)) (times e d)} (search quotes depth 20)
    (search quotes depth 20) refl)
    (equal_trans (minus_same (equal_refl (whole (pos 0))) h)
    (by_quotes {ρ = r ∷ u ∷ []} (search quotes depth 20) (search quotes depth 20) refl))

by_sign : (u e : Rational) (d r : ℤ) → Nonneg u → (d ≡ pos 0 → ⊥) → Equal (times e (whole d)) (times (whole r) u) →
    neg_ℤ (pos (unsigned_abs d)) ≤ℤ r → r ≤ℤ pos (unsigned_abs d) → Truncated u e
unfolding negative
by_sign u e (pos zero) r n h same low high = absurd (h refl)
by_sign u e (pos (suc d)) r n h same low high =
    truncated_from u e (whole (pos (suc d))) (whole r) (whole_above (suc d) (omega arith)) n same (whole_le low)
    (whole_le high)
by_sign u e (negsuc d) r n h same low high =
    truncated_from u e (whole (pos (suc d))) (negative (whole r)) (whole_above (suc d) (omega arith)) n
    (minus_zero u e (whole (negsuc d)) (whole r) same)
    (whole_le (let k : neg_ℤ (pos (suc d)) ≤ℤ neg_ℤ r = omega (arith, ints) in
    k)) (whole_le (let k : neg_ℤ r ≤ℤ pos (suc d) = omega (arith, ints) in k))

-- the machine's quotient less the quotient of the values
pub quotient_truncated : (v w p q f : ℤ) (s : ℕ) (t : Rational) → (w ≡ pos 0 → ⊥) → f ≡ (p +ℤ pos s) -ℤ q →
    Equal (times t (word_value w q)) (word_value v p) →
    Truncated (unit f) (minus (word_value (int_div (v *ℤ pos (2 ^ s)) w) f) t)
quotient_truncated v w p q f s t nonzero e back =
    let n = v *ℤ pos (2 ^ s) in let d = int_div n w in let u = unit f in
    let r = remainder n w nonzero in
    by_sign u (minus (word_value d f) t) w (d *ℤ w -ℤ n) (above_nonneg (unit_above f)) nonzero
    (equal_trans (times_same (minus_same (word_is d f) (equal_refl t)) (equal_refl (whole w)))
    (equal_trans (by_quotes {ρ = whole d ∷ u ∷ t ∷ whole w
    ∷ []} {b =
    minus (times (times (whole d) (whole w)) u) (times t (whole w))} (search quotes depth 20)
    (search quotes depth 20) refl)
    (equal_trans (minus_same (times_same (equal_sym (whole_product d w)) (equal_refl u))
    (ratio_back v w p q f s t e back))
    (equal_trans (by_quotes {ρ = whole (d *ℤ w) ∷ u ∷ whole n ∷ []} {b = times (minus (whole (d *ℤ w)) (whole n)) u}
    (search quotes depth 20) (search quotes depth 20) refl)
    (times_same (equal_sym (whole_difference (d *ℤ w) n)) (equal_refl u))))))
    r.0 r.1

pub divided_is : (n d : ℤ) → (d ≡ pos 0 → ⊥) → floor_divided n d ≡ Some (int_div n d)
divided_is n (pos zero) h = absurd (h refl)
divided_is n (pos (suc k)) h = refl
divided_is n (negsuc k) h = refl
