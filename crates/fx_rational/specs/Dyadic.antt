-- Dyadics m / 2^e as they are written, their exact operations, and when these stay within 128 bits.
use Rattle.std.specs.Prelude.{◌≡◌, ℕ, zero, suc, ◌+◌, ◌-◌, ◌^◌, ◌%◌, ◌<◌, ◌≤◌, max, unsigned_abs, ℤ, pos, negsuc, ◌+ℤ◌, ◌-ℤ◌, ◌*ℤ◌, neg_ℤ, int_le, int_lt, Bool, ◌&&◌, nat_le, if◌then◌else◌}
use Rattle.fx_rational.specs.Rational.{Rational, over, is_at_most, floor_div, ceil_div}

-- m / 2^e, as it is written
pub record Dyadic : Type 0 where
  pub m : ℤ
  pub e : ℕ

-- zero is 0 / 2^0, and no exponent is above 2^20
pub record IsDyadic (m : ℤ) (e : ℕ) : Type 0 where
  pub of_zero : m ≡ pos 0 → e ≡ 0
  pub small : e ≤ 2 ^ 20

-- what the mantissa of a written dyadic stays below, either side of zero, and the most of its exponent
abbrev pub mantissa_end : ℕ
mantissa_end = 2 ^ 62

abbrev pub exponent_limit : ℕ
exponent_limit = 96

-- what a text can spell, each in its one spelling: the exponent is 0 or the mantissa odd, so that zero has exponent 0
pub record IsWritten (d : Dyadic) : Type 0 where
  pub small : unsigned_abs d.m < mantissa_end
  pub places : d.e ≤ exponent_limit
  pub one_spelling : 0 < d.e → unsigned_abs d.m % 2 ≡ 1

-- its value
unfoldable pub dyadic_value : Dyadic → Rational
dyadic_value d = over d.m (2 ^ d.e)

-- 0 / 2^0
abbrev pub zero_dyadic : Dyadic
zero_dyadic = record { m = pos 0; e = 0 }

-- m / 2^e with nothing reduced but zero, which has exponent 0
abbrev pub dyadic : ℤ → ℕ → Dyadic
dyadic (pos zero) e = zero_dyadic
dyadic m e = record { m = m; e = e }

-- the mantissa at an exponent that isn't below its own
abbrev pub aligned : Dyadic → ℕ → ℤ
aligned d e = d.m *ℤ pos (2 ^ (e - d.e))

-- both mantissas are brought to the greater exponent
unfoldable pub dyadic_sum : Dyadic → Dyadic → Dyadic
dyadic_sum a b = let e = max a.e b.e in dyadic (aligned a e +ℤ aligned b e) e

-- so are differences
unfoldable pub dyadic_difference : Dyadic → Dyadic → Dyadic
dyadic_difference a b = let e = max a.e b.e in dyadic (aligned a e -ℤ aligned b e) e

-- mantissas are multiplied and exponents added
unfoldable pub dyadic_product : Dyadic → Dyadic → Dyadic
dyadic_product a b = dyadic (a.m *ℤ b.m) (a.e + b.e)

-- with the other sign
abbrev pub negated : Dyadic → Dyadic
negated d = record { m = neg_ℤ d.m; e = d.e }

-- by value, whatever the exponents
abbrev pub is_dyadic_at_most : Dyadic → Dyadic → Bool
is_dyadic_at_most a b = is_at_most (dyadic_value a) (dyadic_value b)

-- the first of equals
unfoldable pub least : Dyadic → Dyadic → Dyadic
least a b = if is_dyadic_at_most a b then a else b

-- the first of equals again
unfoldable pub greatest : Dyadic → Dyadic → Dyadic
greatest a b = if is_dyadic_at_most b a then a else b

-- a mantissa of 128 bits: from -2^127 to 2^127 - 1
unfoldable pub fits_128 : ℤ → Bool
fits_128 m = int_le (neg_ℤ (pos (2 ^ 127))) m && int_lt m (pos (2 ^ 127))

-- each mantissa fits after its alignment, and so does the result's
unfoldable pub sum_fits : Dyadic → Dyadic → Bool
sum_fits a b =
    let e = max a.e b.e in fits_128 (aligned a e) && fits_128 (aligned b e) && fits_128 (aligned a e +ℤ aligned b e)

-- of a difference
unfoldable pub difference_fits : Dyadic → Dyadic → Bool
difference_fits a b =
    let e = max a.e b.e in fits_128 (aligned a e) && fits_128 (aligned b e) && fits_128 (aligned a e -ℤ aligned b e)

-- of a product
unfoldable pub product_fits : Dyadic → Dyadic → Bool
product_fits a b = fits_128 (a.m *ℤ b.m)

-- the greatest dyadic not above d, and the least not below, of those whose exponent is at most e
unfoldable pub rounded_down : Dyadic → ℕ → Dyadic
rounded_down d e = if nat_le d.e e then d else dyadic (floor_div d.m (2 ^ (d.e - e))) e

-- the least not below
unfoldable pub rounded_up : Dyadic → ℕ → Dyadic
rounded_up d e = if nat_le d.e e then d else dyadic (ceil_div d.m (2 ^ (d.e - e))) e

-- 2^-f and w / 2^f as dyadics, the exponent 0 where f is below zero
abbrev pub unit_dyadic : ℤ → Dyadic
unit_dyadic (pos f) = record { m = pos 1; e = f }
unit_dyadic (negsuc f) = record { m = pos (2 ^ suc f); e = 0 }

-- w / 2^f
abbrev pub word_dyadic : ℤ → ℤ → Dyadic
word_dyadic w (pos f) = dyadic w f
word_dyadic w (negsuc f) = record { m = w *ℤ pos (2 ^ suc f); e = 0 }
