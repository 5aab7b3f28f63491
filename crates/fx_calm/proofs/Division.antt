-- Long division of many fractions at once decides how their sum and a whole number stand.
use Rattle.std.proofs.Common.{◌≡◌, ℕ, zero, suc, pred, ◌+◌, ◌-◌, ◌*◌, ◌^◌, ◌/◌, ◌%◌, ◌<◌, ◌≤◌, min, Bool, true, false, if◌then◌else◌, List, [], ◌∷◌, map, length, ℤ, pos, negsuc, ◌+ℤ◌, ◌-ℤ◌, ◌*ℤ◌, ◌≤ℤ◌, ◌<ℤ◌, int_le, refl, sym, ap, subst, ◌∙◌, arith, pow_pos, pow-add}
use Rattle.std.specs.Prelude.{All}
use Rattle.std.proofs.lemmas.Int.{ints}
use Rattle.std.proofs.lemmas.Nat.{div-add-mod', mod_below, mul-le}
use Rattle.std.proofs.Math.Nat.{mul-pos}
use Rattle.std.proofs.lemmas.List.{length-map}
use Rattle.std.proofs.lemmas.List.Elements.{All-head, All-tail}
use Rattle.fx_rational.specs.Rational.{Rational, bottom, whole, over, plus, minus, times, is_at_most, AtMost, Equal}
use Rattle.fx_rational.proofs.Ring.{by_quotes, quotes}
use Rattle.fx_rational.proofs.Laws.{equal_refl, equal_sym, equal_trans, le_refl, le_trans, le_of_equal, plus_le, gap, ordered, nonneg_plus, nonneg_times, Nonneg, nonneg_from, plus_same, times_same, minus_same}
use Rattle.fx_rational.proofs.Tests.{at_most_true, at_most_false, at_most_holds}
use Rattle.fx_rational.proofs.Quotient.{whole_above, le_of_times, times_cancel, over_times}
use Rattle.fx_rational.proofs.Powers.{bottom_times, whole_sum, whole_difference, whole_product, whole_le, whole_order}
use Rattle.fx_fraction.proofs.Ranges.{le_true, true_le}
use Rattle.fx_calm.specs.declared.summand.Summand.{Summand}
use Rattle.fx_calm.specs.Summands.{IsSummand, summand_value, sum_of, digit, rest, digits, rests, left, decided, enough, SumLaw}

whole_nonneg : (n : ℕ) → Nonneg (whole (pos n))
whole_nonneg n = nonneg_from (omega (arith, ints))

-- so many times a number
abbrev count : ℕ → Rational
count n = whole (pos n)

-- ---- one division: c times a summand is its digit and its rest
divided : (c : ℕ) (x : Summand) → 0 < x.bottom →
    Equal (times (count c) (summand_value x)) (plus (whole (pos (digit c x))) (summand_value (rest c x)))
divided c x some =
    let b = x.bottom in let t = c * x.top in
    let e = div-add-mod' t b in
    times_cancel (whole_above b some)
    (equal_trans (by_quotes {ρ = count c ∷ summand_value x ∷ whole (pos b)
    ∷ []} {b =
    times (count c) (times (summand_value x) (whole (pos b)))} (search quotes depth 20) (search quotes depth 20) refl)
    (equal_trans (times_same (equal_refl (count c)) (over_times (pos x.top) b some))
    (equal_trans (equal_sym (whole_product (pos c) (pos x.top)))
    (equal_trans (subst (λ (n : ℕ). Equal (whole (pos t)) (whole (pos n))) (sym e) (equal_refl (whole (pos t))))
    (equal_trans (whole_sum (pos (t / b * b)) (pos (t % b)))
    (equal_trans (plus_same (whole_product (pos (t / b)) (pos b)) (equal_sym (over_times (pos (t % b)) b some)))
    (by_quotes {ρ = whole (pos (t / b)) ∷ whole (pos b) ∷ summand_value (rest c x) ∷ []} (search quotes depth 20)
    (search quotes depth 20) refl)))))))

-- ---- all at once
abbrev pub AreSome : List Summand → Type 0
AreSome [] = Unit {0}
AreSome (x ∷ xs) = (0 < x.bottom) × AreSome xs

all_divided : (c : ℕ) (xs : List Summand) → AreSome xs →
    Equal (times (count c) (sum_of xs)) (plus (whole (pos (digits c xs))) (sum_of (rests c xs)))
all_divided c [] h = by_quotes {ρ = count c ∷ []} (search quotes depth 20) (search quotes depth 20) refl
all_divided c (x ∷ xs) h =
    equal_trans (by_quotes {ρ = count c ∷ summand_value x ∷ sum_of xs
    ∷ []} {b =
    plus (times (count c) (summand_value x)) (times (count c) (sum_of xs))} (search quotes depth 20)
    (search quotes depth 20) refl)
    (equal_trans (plus_same (divided c x h.0) (all_divided c xs h.1))
    (equal_trans (by_quotes {ρ = whole (pos (digit c x)) ∷ summand_value (rest c x) ∷ whole (pos (digits c xs))
    ∷ sum_of (rests c xs) ∷ []} {b =
    plus (plus (whole (pos (digit c x))) (whole (pos (digits c xs))))
    (plus (summand_value (rest c x)) (sum_of (rests c xs)))} (search quotes depth 20) (search quotes depth 20) refl)
    (plus_same (equal_sym (whole_sum (pos (digit c x)) (pos (digits c xs)))) (equal_refl _))))

rests_some : (c : ℕ) (xs : List Summand) → AreSome xs → AreSome (rests c xs)
rests_some c [] h = tt
rests_some c (x ∷ xs) h = (h.0, rests_some c xs h.1)

-- ---- what isn't negative, and below one each
over_nonneg : (t b : ℕ) → Nonneg (over (pos t) b)
unfolding over
over_nonneg t b = nonneg_from (omega (arith, ints))

sum_nonneg : (xs : List Summand) → Nonneg (sum_of xs)
sum_nonneg [] = whole_nonneg 0
sum_nonneg (x ∷ xs) = nonneg_plus (over_nonneg x.top x.bottom) (sum_nonneg xs)

-- each top below its bottom
abbrev AreBelow : List Summand → Type 0
AreBelow [] = Unit {0}
AreBelow (x ∷ xs) = (x.top < x.bottom) × AreBelow xs

-- one that is zero is at most zero, any other at most one
below_one : (t b : ℕ) → t < b → AtMost (over (pos t) b) (whole (pos (min t 1)))
below_one t b l =
    le_of_times (whole_above b (omega (arith, l))) (le_trans (le_of_equal (over_times (pos t) b (omega (arith, l))))
    (le_trans (whole_le {a = pos t} {b = pos (min t 1 * b)} (let m = few (min t 1) refl in
    omega (arith, ints, m))) (le_of_equal (whole_product (pos (min t 1)) (pos b)))))
  where
    few : (m : ℕ) → m ≡ min t 1 → t ≤ m * b
    few zero e = omega (arith, e)
    few (suc zero) e = omega (arith, l)
    few (suc (suc m)) e = absurd (omega (arith, e))

below_left : (xs : List Summand) → AreBelow xs → AtMost (sum_of xs) (whole (pos (left xs)))
below_left [] h = le_refl _
below_left (x ∷ xs) h =
    le_trans (plus_le (below_one x.top x.bottom h.0) (below_left xs h.1))
    (le_of_equal (equal_sym (whole_sum (pos (min x.top 1)) (pos (left xs)))))

-- no more are left than there are
pub left_few : (xs : List Summand) → left xs ≤ length xs
left_few [] = omega arith
left_few (x ∷ xs) = let more = left_few xs in omega (arith, more)

rests_below : (c : ℕ) (xs : List Summand) → AreSome xs → AreBelow (rests c xs)
rests_below c [] h = tt
rests_below c (x ∷ xs) h = (mod_below (c * x.top) x.bottom h.0, rests_below c xs h.1)

-- ---- the decision
-- s and the rests together
abbrev value : ℤ → List Summand → Rational
value s xs = plus (whole s) (sum_of xs)

-- those of the next digits
abbrev next_value : ℤ → List Summand → Rational
next_value s xs = value (pos 10 *ℤ s +ℤ pos (digits 10 xs)) (rests 10 xs)

-- where it is above zero, 10^t times it is more than the count
abbrev IsFar : ℕ → ℤ → List Summand → Type 0
IsFar t s xs = is_at_most (value s xs) (whole (pos 0)) ≡ false →
    AtMost (whole (pos (length xs + 1))) (times (count (10 ^ t)) (value s xs))

-- the next digits make ten of it
tenfold : (s : ℤ) (xs : List Summand) → AreSome xs → Equal (next_value s xs) (times (count 10) (value s xs))
tenfold s xs h =
    equal_trans (plus_same (equal_trans (whole_sum (pos 10 *ℤ s) (pos (digits 10 xs)))
    (plus_same (whole_product (pos 10) s) (equal_refl _))) (equal_refl _))
    (equal_trans (by_quotes {ρ = whole s ∷ whole (pos (digits 10 xs)) ∷ sum_of (rests 10 xs)
    ∷ []} {a = plus (plus (times (count 10) (whole s)) (whole (pos (digits 10 xs)))) (sum_of (rests 10 xs))} {b =
    plus (times (count 10) (whole s)) (plus (whole (pos (digits 10 xs))) (sum_of (rests 10 xs)))}
    (search quotes depth 20) (search quotes depth 20) refl)
    (equal_trans (plus_same (equal_refl _) (equal_sym (all_divided 10 xs h)))
    (by_quotes {ρ = whole s ∷ sum_of xs ∷ []} {b = times (whole (pos 10)) (plus (whole s) (sum_of xs))}
    (search quotes depth 20) (search quotes depth 20) refl)))

same_test : (x y : Rational) → (AtMost x (whole (pos 0)) → AtMost y (whole (pos 0))) →
    (AtMost y (whole (pos 0)) → AtMost x (whole (pos 0))) → is_at_most x (whole (pos 0)) ≡ is_at_most y (whole (pos 0))
same_test x y f g = by (is_at_most x (whole (pos 0))) refl (is_at_most y (whole (pos 0))) refl
  where
    by : (s : Bool) → is_at_most x (whole (pos 0)) ≡ s → (t : Bool) → is_at_most y (whole (pos 0)) ≡ t →
        is_at_most x (whole (pos 0)) ≡ is_at_most y (whole (pos 0))
    by true p true q = p ∙ sym q
    by false p false q = p ∙ sym q
    by true p false q = let e = at_most_holds (f (at_most_true x (whole (pos 0)) p)) in absurd (let z = sym e ∙ q in cc)
    by false p true q = let e = at_most_holds (g (at_most_true y (whole (pos 0)) q)) in absurd (let z = sym p ∙ e in cc)

-- ten times as much is at most zero exactly where it is
tenfold_test : (s : ℤ) (xs : List Summand) → AreSome xs →
    is_at_most (next_value s xs) (whole (pos 0)) ≡ is_at_most (value s xs) (whole (pos 0))
tenfold_test s xs h =
    let e = tenfold s xs h in
    same_test (next_value s xs) (value s xs)
    (λ l. le_of_times (whole_above 10 (omega arith))
    (le_trans (le_of_equal (by_quotes {ρ = value s xs
    ∷ []} {a = times (value s xs) (whole (pos 10))} {b =
    times (whole (pos 10)) (value s xs)} (search quotes depth 20) (search quotes depth 20) refl)) (le_trans
    (le_of_equal (equal_sym e))
    (le_trans l (le_of_equal
    (by_quotes {ρ = []} {a = whole (pos 0)} {b = times (whole (pos 0)) (whole (pos 10))} (search quotes depth 20)
    (search quotes depth 20) refl))))))
    (λ l. le_trans (le_of_equal e)
    (le_trans (times_le_left l)
    (le_of_equal (by_quotes {ρ = []} {a = times (whole (pos 10)) (whole (pos 0))} {b = whole (pos 0)}
    (search quotes depth 20) (search quotes depth 20) refl))))
  where
    times_le_left : {x y : Rational} → AtMost x y → AtMost (times (whole (pos 10)) x) (times (whole (pos 10)) y)
    times_le_left {x} {y} l =
        ordered (nonneg_times (whole_nonneg 10) (gap l))
        (by_quotes {ρ = x ∷ y ∷ []} (search quotes depth 20) (search quotes depth 20) refl)

-- ---- whole numbers
false_lt : (a b : ℤ) → int_le a b ≡ false → b <ℤ a
false_lt a b e = grind (arith, ints, e)

lt_false : (a b : ℤ) → b <ℤ a → int_le a b ≡ false
lt_false a b l = grind (arith, ints, l)

-- above zero as a test
positive : (x : Rational) (n : ℤ) → pos 1 ≤ℤ n → AtMost (whole n) x → is_at_most x (whole (pos 0)) ≡ false
positive x n l h = by (is_at_most x (whole (pos 0))) refl
  where
    by : (t : Bool) → is_at_most x (whole (pos 0)) ≡ t → is_at_most x (whole (pos 0)) ≡ false
    by false e = e
    by true e =
        absurd (let o = whole_order (le_trans h (at_most_true x (whole (pos 0)) e)) in omega (arith, ints, o, l))

-- ---- each turn decides rightly
pub decided_is : (t : ℕ) (s : ℤ) (xs : List Summand) → AreSome xs → AreBelow xs → IsFar t s xs →
    decided t s xs ≡ is_at_most (value s xs) (whole (pos 0))
unfolding decided
decided_is zero s xs some below far = by (is_at_most (value s xs) (whole (pos 0))) refl
  where
    low : AtMost (whole s) (value s xs)
    low =
        ordered (sum_nonneg xs)
        (by_quotes {ρ = whole s ∷ sum_of xs ∷ []} (search quotes depth 20) (search quotes depth 20) refl)

    high : AtMost (value s xs) (plus (whole s) (whole (pos (left xs))))
    high = plus_le (le_refl (whole s)) (below_left xs below)

    by : (b : Bool) → is_at_most (value s xs) (whole (pos 0)) ≡ b →
        int_le s (pos 0) ≡ is_at_most (value s xs) (whole (pos 0))
    by true e =
        let o = whole_order (le_trans low (at_most_true (value s xs) (whole (pos 0)) e)) in le_true s (pos 0) o ∙ sym e
    by false e =
        let h =
        le_trans (far e) (le_trans
        (le_of_equal (by_quotes {ρ = value s xs ∷ []} {a = times (whole (pos 1)) (value s xs)} {b = value s xs}
        (search quotes depth 20) (search quotes depth 20) refl)) (le_trans high (le_of_equal
        (equal_sym (whole_sum s (pos (left xs))))))) in
        let o = whole_order h in let few = left_few xs in lt_false s (pos 0) (omega (arith, ints, o, few)) ∙ sym e
decided_is (suc t) s xs some below far =
    by (int_le (pos 1) s) refl (int_le (s +ℤ pos (left xs)) (pos 0)) refl
    (decided_is t (pos 10 *ℤ s +ℤ pos (digits 10 xs)) (rests 10 xs) (rests_some 10 xs some)
    (rests_below 10 xs some) next)
  where
    low : AtMost (whole s) (value s xs)
    low =
        ordered (sum_nonneg xs)
        (by_quotes {ρ = whole s ∷ sum_of xs ∷ []} (search quotes depth 20) (search quotes depth 20) refl)

    high : AtMost (value s xs) (whole (s +ℤ pos (left xs)))
    high =
        le_trans (plus_le (le_refl (whole s)) (below_left xs below))
        (le_of_equal (equal_sym (whole_sum s (pos (left xs)))))

    powers : Equal (count (10 ^ suc t)) (times (count (10 ^ t)) (count 10))
    powers =
        let e : t + 1 ≡ suc t = omega arith in let p = pow-add 10 t 1 in
        let q : 10 ^ suc t ≡ 10 ^ t * 10 = ap (λ (n : ℕ). 10 ^ n) (sym e) ∙ p in
        subst (λ (n : ℕ). Equal (count n) (times (count (10 ^ t)) (count 10))) (sym q)
        (whole_product (pos (10 ^ t)) (pos 10))

    next : IsFar t (pos 10 *ℤ s +ℤ pos (digits 10 xs)) (rests 10 xs)
    next e =
        let l = length-map xs (rest 10) in
        let h = far (sym (tenfold_test s xs some) ∙ e) in
        subst (λ (n : ℕ). AtMost (whole (pos (n + 1))) (times (count (10 ^ t)) (next_value s xs))) (sym l)
        (le_trans h (le_of_equal
        (equal_trans (times_same powers (equal_refl (value s xs)))
        (equal_trans (by_quotes {ρ = count (10 ^ t) ∷ value s xs
        ∷ []} {a = times (times (count (10 ^ t)) (count 10)) (value s xs)} {b =
        times (count (10 ^ t)) (times (count 10) (value s xs))} (search quotes depth 20)
        (search quotes depth 20) refl) (times_same (equal_refl (count (10 ^ t)))
        (equal_sym (tenfold s xs some)))))))

    by : (a : Bool) → int_le (pos 1) s ≡ a → (b : Bool) → int_le (s +ℤ pos (left xs)) (pos 0) ≡ b →
        decided t (pos 10 *ℤ s +ℤ pos (digits 10 xs)) (rests 10 xs) ≡ is_at_most (next_value s xs) (whole (pos 0)) →
        (if a then false else if b then true else decided t (pos 10 *ℤ s +ℤ pos (digits 10 xs)) (rests 10 xs))
        ≡ is_at_most (value s xs) (whole (pos 0))
    by true p b q r = sym (positive (value s xs) s (true_le (pos 1) s p) low)
    by false p true q r =
        sym (at_most_holds (le_trans high
        (whole_le {a = s +ℤ pos (left xs)} {b = pos 0} (true_le (s +ℤ pos (left xs)) (pos 0) q))))
    by false p false q r = r ∙ tenfold_test s xs some

-- ---- two different sums differ by a fraction of the denominators' product
suc_pred_of : (n : ℕ) → 0 < n → suc (pred n) ≡ n
suc_pred_of n h = omega (arith, h)

plus_bottom : (p q : Rational) → bottom (plus p q) ≡ bottom p * bottom q
unfolding plus over
plus_bottom p q = suc_pred_of (bottom p * bottom q) (mul-pos {m = bottom p} {n = bottom q} (omega arith) (omega arith))

summand_bottom : (x : Summand) → 0 < x.bottom → bottom (summand_value x) ≡ x.bottom
unfolding over
summand_bottom x h = suc_pred_of x.bottom h

bottom_few : (xs : List Summand) → All IsSummand xs → bottom (sum_of xs) ≤ 2 ^ (122 * length xs)
bottom_few [] h = pow_pos (122 * 0)
bottom_few (x ∷ xs) h =
    let own = All-head IsSummand x xs h in let more = bottom_few xs (All-tail IsSummand x xs h) in
    let p = plus_bottom (summand_value x) (sum_of xs) in let q = summand_bottom x own.some in let f = own.few in
    let m =
    mul-le (bottom (summand_value x)) (bottom (sum_of xs)) (2 ^ 122) (2 ^ (122 * length xs))
    (omega (arith, q, f)) more in
    let e = pow-add 2 122 (122 * length xs) in
    let k : 2 ^ (122 * suc (length xs)) ≡ 2 ^ (122 + 122 * length xs) = ap (λ (n : ℕ). 2 ^ n) (omega arith) in
    omega (arith, p, m, e, k)

strict : (x : Rational) (l : ℕ) → is_at_most x (whole (pos l)) ≡ false → (pos l *ℤ pos (bottom x)) <ℤ (x.top *ℤ pos 1)
unfolding is_at_most
strict x l e = false_lt (x.top *ℤ pos 1) (pos l *ℤ pos (bottom x)) e

apart : (x : Rational) (l : ℕ) → is_at_most x (whole (pos l)) ≡ false →
    AtMost (whole (pos 1)) (times (minus x (whole (pos l))) (whole (pos (bottom x))))
apart x l e =
    let d = pos (bottom x) in let h = strict x l e in
    le_trans (whole_le {a = pos 1} {b = x.top -ℤ pos l *ℤ d} (omega (arith, ints, h)))
    (le_of_equal (equal_trans (whole_difference x.top (pos l *ℤ d))
    (equal_trans (minus_same (equal_sym (bottom_times x)) (whole_product (pos l) d))
    (by_quotes {ρ = x ∷ whole d ∷ whole (pos l) ∷ []} {b = times (minus x (whole (pos l))) (whole d)}
    (search quotes depth 20) (search quotes depth 20) refl))))

all_some : (xs : List Summand) → All IsSummand xs → AreSome xs
all_some [] h = tt
all_some (x ∷ xs) h = ((All-head IsSummand x xs h).some, all_some xs (All-tail IsSummand x xs h))

-- ---- digits of ten are more than three bits
tens_more : (t : ℕ) → 2 ^ (3 * t) ≤ 10 ^ t
tens_more zero = omega arith
tens_more (suc t) =
    let more = tens_more t in let e = pow-add 2 (3 * t) 3 in let p = pow-add 10 t 1 in
    let k : 2 ^ (3 * suc t) ≡ 2 ^ (3 * t + 3) = ap (λ (n : ℕ). 2 ^ n) (omega arith) in
    let l : 10 ^ suc t ≡ 10 ^ (t + 1) = ap (λ (n : ℕ). 10 ^ n) (omega arith) in
    omega (arith, more, e, p, k, l)

power_more : (a b : ℕ) → a ≤ b → 2 ^ a ≤ 2 ^ b
power_more a b l = Rattle.std.proofs.Math.Nat.pow-le-pow_right {n = 2} (Rattle.std.proofs.Common.lit< tt) l

-- the count and one, times so many bits, are so many digits
enough_tens : (n b : ℕ) → n ≤ 64 → b ≤ 2 ^ (122 * n) → (n + 1) * b ≤ 10 ^ 2605
enough_tens n b few h =
    let m = power_more (122 * n) (122 * 64) (omega (arith, few)) in
    let k = mul-le (n + 1) b (2 ^ 7) (2 ^ (122 * 64)) (omega (arith, few)) (omega (arith, h, m)) in
    let e = pow-add 2 7 (122 * 64) in let t = tens_more 2605 in
    omega (arith, k, e, t)

-- ---- the law
module _ (xs : List Summand) (limit : ℕ) (summands : All IsSummand xs) (few : length xs ≤ 64) where
  some : AreSome xs
  some = all_some xs summands

  abbrev first : ℤ
  first = pos (digits 1 xs) -ℤ pos limit

  start : Equal (value first (rests 1 xs)) (minus (sum_of xs) (whole (pos limit)))
  start = equal_trans (plus_same (whole_difference (pos (digits 1 xs)) (pos limit)) (equal_refl _))
      (equal_trans (by_quotes {ρ = whole (pos (digits 1 xs)) ∷ whole (pos limit) ∷ sum_of (rests 1 xs)
      ∷ []} {b =
      minus (plus (whole (pos (digits 1 xs))) (sum_of (rests 1 xs))) (whole (pos limit))} (search quotes depth 20)
      (search quotes depth 20) refl)
      (minus_same (equal_trans (equal_sym (all_divided 1 xs some))
      (by_quotes {ρ = sum_of xs ∷ []} {a = times (whole (pos 1)) (sum_of xs)} {b = sum_of xs}
      (search quotes depth 20) (search quotes depth 20) refl)) (equal_refl _)))

  starts_same : is_at_most (value first (rests 1 xs)) (whole (pos 0)) ≡ is_at_most (sum_of xs) (whole (pos limit))
  starts_same =
      by (is_at_most (value first (rests 1 xs)) (whole (pos 0))) refl (is_at_most (sum_of xs) (whole (pos limit))) refl
    where
      by : (a : Bool) → is_at_most (value first (rests 1 xs)) (whole (pos 0)) ≡ a → (b : Bool) →
          is_at_most (sum_of xs) (whole (pos limit)) ≡ b →
          is_at_most (value first (rests 1 xs)) (whole (pos 0)) ≡ is_at_most (sum_of xs) (whole (pos limit))
      by true p true q = p ∙ sym q
      by false p false q = p ∙ sym q
      by true p false q =
          let l = le_trans (le_of_equal (equal_sym start)) (at_most_true _ _ p) in
          let m =
          at_most_holds {x = sum_of xs} {y = whole (pos limit)}
          (ordered (gap l) (by_quotes {ρ = sum_of xs ∷ whole (pos limit) ∷ []} (search quotes depth 20)
          (search quotes depth 20) refl)) in
          absurd (let z = sym m ∙ q in cc)
      by false p true q =
          let l = at_most_true (sum_of xs) (whole (pos limit)) q in
          let m =
          at_most_holds {x = value first (rests 1 xs)} {y = whole (pos 0)}
          (le_trans (le_of_equal start)
          (ordered (gap l) (by_quotes {ρ = sum_of xs ∷ whole (pos limit) ∷ []} (search quotes depth 20)
          (search quotes depth 20) refl))) in
          absurd (let z = sym p ∙ m in cc)

  far : IsFar enough first (rests 1 xs)
  unfolding enough
  far e =
      let x = sum_of xs in let d = minus x (whole (pos limit)) in let b = bottom x in let n = length xs in
      let l = length-map xs (rest 1) in
      let one = apart x limit (sym starts_same ∙ e) in
      let more = at_most_false x (whole (pos limit)) (sym starts_same ∙ e) in
      let bottoms = enough_tens n b few (bottom_few xs summands) in
      let wide : AtMost (times (count (n + 1)) (count b)) (count (10 ^ 2605)) =
      le_trans (le_of_equal (equal_sym (whole_product (pos (n + 1)) (pos b))))
      (whole_le {a = pos ((n + 1) * b)} {b = pos (10 ^ 2605)} (omega (arith, ints, bottoms))) in
      let low : AtMost (whole (pos (n + 1))) (times d (times (count (n + 1)) (count b))) =
      ordered (nonneg_times (gap one) (whole_nonneg (n + 1)))
      (by_quotes {ρ = d ∷ count (n + 1) ∷ count b ∷ []} (search quotes depth 20) (search quotes depth 20) refl) in
      let high : AtMost (times d (times (count (n + 1)) (count b))) (times (count (10 ^ 2605)) d) =
      ordered (nonneg_times (gap more) (gap wide))
      (by_quotes {ρ = x ∷ whole (pos limit) ∷ count (n + 1) ∷ count b ∷ count (10 ^ 2605) ∷ []}
      (search quotes depth 20) (search quotes depth 20) refl) in
      subst (λ (n : ℕ). AtMost (whole (pos (n + 1))) (times (count (10 ^ 2605)) (value first (rests 1 xs)))) (sym l)
      (le_trans low (le_trans high (le_of_equal (times_same (equal_refl (count (10 ^ 2605))) (equal_sym start)))))

  pub law : decided enough first (rests 1 xs) ≡ is_at_most (sum_of xs) (whole (pos limit))
  law = decided_is enough first (rests 1 xs) (rests_some 1 xs some) (rests_below 1 xs some) far ∙ starts_same

pub sums_are : SumLaw
sums_are xs limit summands few = law xs limit summands few
