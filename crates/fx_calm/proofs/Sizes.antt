-- Sizes in code: fractions and decimals without their sign, beside each other and beside powers of two, and in units.
use Rattle.std.proofs.Common.{◌≡◌, ℕ, zero, suc, pred, ◌+◌, ◌-◌, ◌*◌, ◌/◌, ◌^◌, ◌<◌, ◌≤◌, leb, Bool, true, false, if◌then◌else◌, ℤ, pos, ◌*ℤ◌, ◌≤ℤ◌, neg_ℤ, refl, sym, ap, ◌∙◌, arith}
use Rattle.std.specs.Prelude.{unsigned_abs}
use Rattle.std.proofs.lemmas.Int.{ints}
use Rattle.std.proofs.Math.Nat.{zero-div, div-eq_of_lt, add-div_right}
use Rattle.fx_rational.specs.Rational.{Rational, bottom, over, whole, is_at_most, ceil_div, scaled, AtMost}
use Rattle.fx_rational.specs.Decimal.{Decimal, decimal_value}
use Rattle.fx_rational.proofs.Lowest.{suc_pred}
use Rattle.fx_rational.proofs.Powers.{power}
use Rattle.fx_plan_laws.specs.Powers.{magnitude, greater}
use Rattle.fx_plan_laws.specs.Bounds.{units_up}

-- ---- what they are
pub fraction_size : (c : Rational) → over (pos (unsigned_abs c.top)) (bottom c) ≡ magnitude c
unfolding over
fraction_size c = refl

pub decimal_size : (d : Decimal) → over (pos (unsigned_abs d.a)) (10 ^ d.b) ≡ magnitude (decimal_value d)
unfolding decimal_value over
decimal_size d = refl

pub whole_size : (n : ℕ) → over (pos n) 1 ≡ whole (pos n)
unfolding over
whole_size n = refl

-- ---- beside each other
pub cross_test : (s b t d : ℕ) → 0 < b → 0 < d → leb (s * d) (t * b) ≡ is_at_most (over (pos s) b) (over (pos t) d)
unfolding is_at_most over
cross_test s b t d p q = (λ i. leb (s * sym (suc_pred d q) i) (t * sym (suc_pred b p) i))

-- ---- in units
one_more_over : (k d : ℕ) → (suc k + d) / suc d ≡ suc (k / suc d)
one_more_over k d =
    let e : suc k + d ≡ k + suc d = omega arith in let one : k / suc d + 1 ≡ suc (k / suc d) = omega arith in
    ap (λ (n : ℕ). n / suc d) e ∙ add-div_right k {k = suc d} (omega arith) ∙ one

-- a ceiling of a natural number
ceil_natural : (t d : ℕ) → unsigned_abs (ceil_div (pos t) (suc d)) ≡ (t + d) / suc d
ceil_natural zero d = ap (λ (n : ℕ). unsigned_abs (neg_ℤ (pos n))) (zero-div (suc d))
    ∙ sym (div-eq_of_lt {n = zero + d} {m = suc d} (omega arith))
ceil_natural (suc k) d = sym (one_more_over k d)

pub units_code : (f t b : ℕ) → 0 < b → (t * 2 ^ f + (b - 1)) / b ≡ units_up f (over (pos t) b)
unfolding units_up scaled over
units_code f t b some =
    let less : b - 1 ≡ pred b = omega (arith, some) in
    (λ i. (t * 2 ^ f + less i) / sym (suc_pred b some) i) ∙ sym (ceil_natural (t * 2 ^ f) (pred b))

-- ---- their tops have no sign to lose
abbrev pub HasNoSign : Rational → Type 0
HasNoSign q = pos (unsigned_abs q.top) ≡ q.top

pub greater_unsigned : (x y : Rational) → HasNoSign x → HasNoSign y → HasNoSign (greater x y)
greater_unsigned x y h g = by (is_at_most y x)
  where
    by : (t : Bool) → HasNoSign (if t then x else y)
    by true = h
    by false = g

-- one that is at most 2^k has a top of at most its bottom times 2^k
pub top_at_most : (q : Rational) (k : ℕ) → HasNoSign q → AtMost q (power k) → unsigned_abs q.top ≤ bottom q * 2 ^ k
top_at_most q k u h = by q.top (unsigned_abs q.top) (bottom q) (2 ^ k) u h.at_most
  where
    by : (t : ℤ) (n b p : ℕ) → pos n ≡ t → (t *ℤ pos 1) ≤ℤ (pos p *ℤ pos b) → n ≤ b * p
    by t n b p e l = let r : p * b ≡ b * p = omega arith in omega (arith, ints, e, l, r)
