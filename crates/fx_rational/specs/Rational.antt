-- Fractions of whole numbers without bound, by cross multiplication: nothing is reduced and nothing is bounded.
use Rattle.std.specs.Prelude.{◌≡◌, ℕ, zero, suc, pred, ◌*◌, ◌^◌, ◌/◌, ℤ, pos, negsuc, ◌+ℤ◌, ◌*ℤ◌, neg_ℤ, ◌≤ℤ◌, int_le, int_div, unsigned_abs, Option, Some, None, Bool, true, false}
use Rattle.fx_rational.specs.Gcd.{gcd}

-- top / (less + 1): the denominator is above zero by construction
pub record Rational : Type 0 where
  pub top : ℤ
  pub less : ℕ

-- the denominator
abbrev pub bottom : Rational → ℕ
bottom q = suc q.less

-- n / d, for d above zero
unfoldable pub over : ℤ → ℕ → Rational
over n d = record { top = n; less = pred d }

-- a whole number
abbrev pub whole : ℤ → Rational
whole n = record { top = n; less = 0 }

-- n/d + m/e = (n*e + m*d) / (d*e)
unfoldable pub plus : Rational → Rational → Rational
unfolding over
plus p q = over (p.top *ℤ pos (bottom q) +ℤ q.top *ℤ pos (bottom p)) (bottom p * bottom q)

-- the sign turned
unfoldable pub negative : Rational → Rational
negative p = record { top = neg_ℤ p.top; less = p.less }

-- p + (-q)
unfoldable pub minus : Rational → Rational → Rational
minus p q = plus p (negative q)

-- tops and bottoms are multiplied
unfoldable pub times : Rational → Rational → Rational
times p q = over (p.top *ℤ q.top) (bottom p * bottom q)

-- n / d divided by m / e: none where m is zero, and a divisor below zero turns the sign
unfoldable pub divided : ℤ → ℕ → ℤ → ℕ → Option Rational
divided n d (pos zero) e = None
divided n d (pos (suc m)) e = Some (over (n *ℤ pos e) (d * suc m))
divided n d (negsuc m) e = Some (over (neg_ℤ (n *ℤ pos e)) (d * suc m))

-- none exactly where the divisor is zero
unfoldable pub quotient : Rational → Rational → Option Rational
quotient p q = divided p.top (bottom p) q.top (bottom q)

-- the same number: p.top / p.bottom = q.top / q.bottom
pub record Equal (p q : Rational) : Type 0 where
  pub equal : p.top *ℤ pos (bottom q) ≡ q.top *ℤ pos (bottom p)

-- p is at most q, by cross multiplication
pub record AtMost (p q : Rational) : Type 0 where
  pub at_most : (p.top *ℤ pos (bottom q)) ≤ℤ (q.top *ℤ pos (bottom p))

-- AtMost as a test
unfoldable pub is_at_most : Rational → Rational → Bool
is_at_most p q = int_le (p.top *ℤ pos (bottom q)) (q.top *ℤ pos (bottom p))

-- q * 2^f, for any sign of f
unfoldable pub scaled : Rational → ℤ → Rational
scaled q (pos f) = record { top = q.top *ℤ pos (2 ^ f); less = q.less }
scaled q (negsuc f) = over q.top (bottom q * 2 ^ suc f)

-- the greatest whole number of which d times isn't above n, for d above zero
abbrev pub floor_div : ℤ → ℕ → ℤ
floor_div (pos n) d = pos (n / d)
floor_div (negsuc n) d = negsuc (n / d)

-- the least whole number of which d times isn't below n, for d above zero
abbrev pub ceil_div : ℤ → ℕ → ℤ
ceil_div n d = neg_ℤ (floor_div (neg_ℤ n) d)

-- the greatest whole number not above q
unfoldable pub floor : Rational → ℤ
floor q = floor_div q.top (bottom q)

-- the same number in lowest terms
unfoldable pub lowest : Rational → Rational
lowest q = let g = gcd (unsigned_abs q.top) (bottom q) in over (int_div q.top (pos g)) (bottom q / g)

-- above 0
abbrev pub above_zero : ℤ → Bool
above_zero (pos zero) = false
above_zero (pos (suc n)) = true
above_zero (negsuc n) = false

-- below 0
abbrev pub below_zero : ℤ → Bool
below_zero (pos n) = false
below_zero (negsuc n) = true

-- above 0
unfoldable pub is_positive : Rational → Bool
is_positive q = above_zero q.top

-- below 0
unfoldable pub is_negative : Rational → Bool
is_negative q = below_zero q.top
