-- Powers of two that bound numbers, and the search for the first that does.
use Rattle.std.specs.Prelude.{ℕ, zero, suc, ◌+◌, ◌^◌, unsigned_abs, ℤ, pos, negsuc, Bool, if◌then◌else◌}
use Rattle.fx_rational.specs.Rational.{Rational, is_at_most}
use Rattle.fx_rational.specs.Dyadic.{Dyadic, dyadic_value}

-- ---- powers of two
-- 2^v, in the one spelling of a text
abbrev pub power_dyadic : ℤ → Dyadic
power_dyadic (pos v) = record { m = pos (2 ^ v); e = 0 }
power_dyadic (negsuc v) = record { m = pos 1; e = suc v }

-- 2^v, as a number
unfoldable pub power_value : ℤ → Rational
power_value v = dyadic_value (power_dyadic v)

-- x is at most 2^v
abbrev pub is_below_power : Rational → ℤ → Bool
is_below_power x v = is_at_most x (power_value v)

-- the first of i, i + 1, .. at which the test is true, of n; and i + n where there is none
abbrev pub first_true : ℕ → (ℕ → Bool) → ℕ → ℕ
first_true zero test i = i
first_true (suc n) test i = if test i then i else first_true n test (i + 1)

-- ---- sizes
-- without its sign
abbrev pub magnitude : Rational → Rational
magnitude q = record { top = pos (unsigned_abs q.top); less = q.less }

-- the greater of two, the first of equals
abbrev pub greater : Rational → Rational → Rational
greater x y = if is_at_most y x then x else y
