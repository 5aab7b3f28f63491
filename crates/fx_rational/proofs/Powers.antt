-- Whole numbers as rationals, 2^n and 2^-f, and a rational times 2^f.
use Rattle.std.proofs.Common.{◌≡◌, ℕ, zero, suc, pred, ◌+◌, ◌*◌, ◌^◌, ◌<◌, refl, sym, ap, ◌∙◌, pos, negsuc, ℤ, ◌+ℤ◌, ◌-ℤ◌, ◌*ℤ◌, neg_ℤ, ◌≤ℤ◌, [], ◌∷◌, arith, pow_pos, pow-add}
use Rattle.std.proofs.Math.Nat.{mul-pos}
use Rattle.std.proofs.lemmas.Int.{ints}
use Rattle.fx_rational.proofs.Quote as int
use Rattle.fx_rational.specs.Rational.{Rational, bottom, whole, over, plus, negative, minus, times, scaled, Equal, AtMost}
use Rattle.fx_rational.specs.Dyadic.{dyadic_value, unit_dyadic}
use Rattle.fx_rational.proofs.Ring.{by_quotes, quotes}
use Rattle.fx_rational.proofs.Laws.{equal_refl, equal_sym, equal_trans, times_same}
use Rattle.fx_rational.proofs.Quotient.{Above, whole_above, times_cancel, over_times}

-- ---- whole numbers as fractions
pub whole_sum : (a b : ℤ) → Equal (whole (a +ℤ b)) (plus (whole a) (whole b))
unfolding plus over
whole_sum a b =
    record { equal = int.by_quotes {ρ = a ∷ b ∷ []} (search int.quotes depth 20) (search int.quotes depth 20) refl }

pub whole_difference : (a b : ℤ) → Equal (whole (a -ℤ b)) (minus (whole a) (whole b))
unfolding minus plus negative over
whole_difference a b =
    record { equal = int.by_quotes {ρ = a ∷ b ∷ []} (search int.quotes depth 20) (search int.quotes depth 20) refl }

pub whole_product : (a b : ℤ) → Equal (whole (a *ℤ b)) (times (whole a) (whole b))
unfolding times over
whole_product a b =
    record { equal = int.by_quotes {ρ = a ∷ b ∷ []} (search int.quotes depth 20) (search int.quotes depth 20) refl }

pub whole_le : {a b : ℤ} → a ≤ℤ b → AtMost (whole a) (whole b)
whole_le h = record { at_most = omega (arith, ints) }

pub whole_order : {a b : ℤ} → AtMost (whole a) (whole b) → a ≤ℤ b
whole_order h = let p = h.at_most in omega (arith, ints)

-- ---- 2^n
abbrev pub power : ℕ → Rational
power n = whole (pos (2 ^ n))

pub power_above : (n : ℕ) → Above (power n)
power_above n = whole_above (2 ^ n) (pow_pos n)

pub power_sum : (a b : ℕ) → Equal (power (a + b)) (times (power a) (power b))
power_sum a b =
    equal_trans (record { equal = ap (λ k. pos k *ℤ pos 1) (pow-add 2 a b) })
    (whole_product (pos (2 ^ a)) (pos (2 ^ b)))

-- ---- 2^-f
unfoldable pub unit : ℤ → Rational
unit f = dyadic_value (unit_dyadic f)

pub over_one : (n : ℤ) → Equal (over n (2 ^ 0)) (whole n)
unfolding over
over_one n = record { equal = refl }

pub unit_times : (f : ℤ) (a b : ℕ) → f ≡ pos a -ℤ pos b → Equal (times (unit f) (power a)) (power b)
unfolding unit dyadic_value
unit_times (pos n) a b e =
    let k : a ≡ n + b = omega (arith, ints) in
    rw k (equal_trans (times_same (equal_refl (over (pos 1) (2 ^ n))) (power_sum n b))
    (equal_trans (by_quotes {ρ = over (pos 1) (2 ^ n) ∷ power n ∷ power b
    ∷ []} {b =
    times (times (over (pos 1) (2 ^ n)) (power n)) (power b)} (search quotes depth 20)
    (search quotes depth 20) refl)
    (equal_trans (times_same (over_times (pos 1) (2 ^ n) (pow_pos n)) (equal_refl (power b)))
    (by_quotes {ρ = power b ∷ []} (search quotes depth 20) (search quotes depth 20) refl))))
unit_times (negsuc n) a b e =
    let k : b ≡ suc n + a = omega (arith, ints) in
    rw k (equal_trans (times_same (over_one (pos (2 ^ suc n))) (equal_refl (power a)))
    (equal_sym (power_sum (suc n) a)))

-- f as a difference of naturals
pub record Split (f : ℤ) : Type 0 where
  pub a : ℕ
  pub b : ℕ
  pub is : f ≡ pos a -ℤ pos b

pub split : (f : ℤ) → Split f
split (pos n) = record { a = n; b = 0; is = omega (arith, ints) }
split (negsuc n) = record { a = 0; b = suc n; is = omega (arith, ints) }

pub unit_sum : (f g : ℤ) → Equal (unit (f +ℤ g)) (times (unit f) (unit g))
unit_sum f g =
    let p = split f in let q = split g in
    let pe = p.is in let qe = q.is in
    let both : f +ℤ g ≡ pos (p.a + q.a) -ℤ pos (p.b + q.b) = omega (arith, ints) in
    times_cancel (power_above (p.a + q.a))
    (equal_trans (unit_times (f +ℤ g) (p.a + q.a) (p.b + q.b) both)
    (equal_trans (power_sum p.b q.b)
    (equal_trans (times_same (equal_sym (unit_times f p.a p.b p.is)) (equal_sym (unit_times g q.a q.b q.is)))
    (equal_trans (by_quotes {ρ = unit f ∷ unit g ∷ power p.a ∷ power q.a
    ∷ []} {b =
    times (times (unit f) (unit g)) (times (power p.a) (power q.a))} (search quotes depth 20)
    (search quotes depth 20) refl)
    (times_same (equal_refl (times (unit f) (unit g))) (equal_sym (power_sum p.a q.a)))))))

pub unit_above : (f : ℤ) → Above (unit f)
unfolding unit dyadic_value over
unit_above (pos n) = record { top = omega (arith, ints) }
unit_above (negsuc n) = record { top = let p = pow_pos (suc n) in omega (arith, ints) }

pub unit_power : (s : ℕ) → Equal (times (unit (pos s)) (power s)) (whole (pos 1))
unit_power s = unit_times (pos s) s 0 (omega (arith, ints))

-- ---- n / d by an inverse of d
pub over_scaled : (n : ℤ) (d : ℕ) → 0 < d → (u : Rational) → Equal (times u (whole (pos d))) (whole (pos 1)) →
    Equal (over n d) (times (whole n) u)
over_scaled n d h u e = times_cancel (whole_above d h) (equal_trans (over_times n d h)
    (equal_trans (by_quotes {ρ = whole n ∷ []} {b = times (whole n) (whole (pos 1))} (search quotes depth 20)
    (search quotes depth 20) refl)
    (equal_trans (times_same (equal_refl (whole n)) (equal_sym e))
    (by_quotes {ρ = whole n ∷ u ∷ whole (pos d) ∷ []} (search quotes depth 20) (search quotes depth 20) refl))))

pub unit_left : (n : ℕ) → Equal (whole (pos (2 ^ suc n))) (unit (negsuc n))
unfolding unit dyadic_value
unit_left n = equal_sym (over_one (pos (2 ^ suc n)))

-- ---- q * 2^f
scaled_up : (t : ℤ) (l n : ℕ) →
    Equal (record { top = t *ℤ pos (2 ^ n); less = l }) (times (record { top = t; less = l }) (power n))
unfolding times over
scaled_up t l n =
    record { equal = let e : suc (pred (suc l * 1)) ≡ suc l = omega arith in ap (λ d. (t *ℤ pos (2 ^ n)) *ℤ pos d) e }

-- a fraction times its bottom is its top
pub bottom_times : (g : Rational) → Equal (times g (whole (pos (bottom g)))) (whole g.top)
unfolding times over
bottom_times g = record {
  equal =
      let e : suc (pred (suc g.less * 1)) ≡ suc g.less = omega arith in
      let k : (g.top *ℤ pos (suc g.less)) *ℤ pos 1 ≡ g.top *ℤ pos (suc g.less) =
      int.by_quotes {ρ = g.top ∷ pos (suc g.less) ∷ []} (search int.quotes depth 20)
      (search int.quotes depth 20) refl in
      k ∙ ap (λ d. g.top *ℤ pos d) (sym e);
}

pub scaled_back : (g : Rational) (f : ℤ) → Equal (times (scaled g f) (unit f)) g
unfolding scaled
scaled_back g (pos n) = equal_trans (times_same (scaled_up g.top g.less n) (equal_refl (unit (pos n))))
    (equal_trans (by_quotes {ρ = g ∷ power n ∷ unit (pos n) ∷ []} {b = times g (times (unit (pos n)) (power n))}
    (search quotes depth 20) (search quotes depth 20) refl)
    (equal_trans (times_same (equal_refl g) (unit_power n))
    (by_quotes {ρ = g ∷ []} (search quotes depth 20) (search quotes depth 20) refl)))
scaled_back g (negsuc n) =
    let x = over g.top (bottom g * 2 ^ suc n) in
    times_cancel (whole_above (bottom g) (omega arith))
    (equal_trans (times_same (times_same (equal_refl x) (equal_sym (unit_left n)))
    (equal_refl (whole (pos (bottom g)))))
    (equal_trans (by_quotes {ρ = x ∷ power (suc n) ∷ whole (pos (bottom g))
    ∷ []} {b =
    times x (times (whole (pos (bottom g))) (power (suc n)))} (search quotes depth 20)
    (search quotes depth 20) refl)
    (equal_trans (times_same (equal_refl x) (equal_sym (whole_product (pos (bottom g)) (pos (2 ^ suc n)))))
    (equal_trans (over_times g.top (bottom g * 2 ^ suc n)
    (mul-pos {m = bottom g} {n = 2 ^ suc n} (omega arith) (pow_pos (suc n)))) (equal_sym (bottom_times g))))))

pub scaled_is : (x : Rational) (n : ℕ) → Equal (scaled x (pos n)) (times x (power n))
unfolding scaled
scaled_is x n = scaled_up x.top x.less n

pub scaled_down : (x : Rational) (n : ℕ) → Equal (times (scaled x (neg_ℤ (pos n))) (power n)) x
scaled_down x zero =
    equal_trans (times_same (scaled_is x 0) (equal_refl (power 0)))
    (by_quotes {ρ = x ∷ []} (search quotes depth 20) (search quotes depth 20) refl)
scaled_down x (suc n) =
    equal_trans (times_same (equal_refl (scaled x (negsuc n))) (unit_left n)) (scaled_back x (negsuc n))
