-- Sums of fractions beside a whole number: by long division, digit by digit, all at once.
use Rattle.std.specs.Prelude.{◌≡◌, ℕ, zero, suc, ◌+◌, ◌*◌, ◌^◌, ◌/◌, ◌%◌, ◌<◌, ◌≤◌, ℤ, pos, ◌+ℤ◌, ◌-ℤ◌, ◌*ℤ◌, int_le, min, Bool, true, false, if◌then◌else◌, List, [], ◌∷◌, map, length, All}
use Rattle.fx_rational.specs.Rational.{Rational, whole, over, plus, is_at_most}
use Rattle.fx_calm.specs.declared.summand.Summand.{Summand}

-- a denominator of 122 bits, above zero, a numerator of 127, and a number below 2^62
pub record IsSummand (x : Summand) : Type 0 where
  pub some : 0 < x.bottom
  pub few : x.bottom < 2 ^ 122
  pub fits : x.top < 2 ^ 127
  pub small : x.top < x.bottom * 2 ^ 62

-- its value
abbrev pub summand_value : Summand → Rational
summand_value x = over (pos x.top) x.bottom

-- what they add up to
abbrev pub sum_of : List Summand → Rational
sum_of [] = whole (pos 0)
sum_of (x ∷ xs) = plus (summand_value x) (sum_of xs)

-- ---- division
-- how often the bottom goes into c times the top, and what is left: c is 1 at first, and then 10
abbrev pub digit : ℕ → Summand → ℕ
digit c x = (c * x.top) / x.bottom

abbrev pub rest : ℕ → Summand → Summand
rest c x = record { top = (c * x.top) % x.bottom; bottom = x.bottom }

-- a summand that can be divided so: c times its top has 128 bits, and its digit is below 2^62
pub record IsReady (c : ℕ) (x : Summand) : Type 0 where
  pub some : 0 < x.bottom
  pub fits : c * x.top < 2 ^ 128
  pub small : c * x.top < x.bottom * 2 ^ 62

-- of all
abbrev pub digits : ℕ → List Summand → ℕ
digits c [] = 0
digits c (x ∷ xs) = digit c x + digits c xs

abbrev pub rests : ℕ → List Summand → List Summand
rests c xs = map (rest c) xs

-- how many aren't zero
abbrev pub left : List Summand → ℕ
left [] = 0
left (x ∷ xs) = min x.top 1 + left xs

-- whether s and the rests xs, below one each, add up to at most zero: long division, until s alone tells, for so many
-- digits
unfoldable pub decided : ℕ → ℤ → List Summand → Bool
decided zero s xs = int_le s (pos 0)
decided (suc t) s xs =
    if int_le (pos 1) s then false else if int_le (s +ℤ pos (left xs)) (pos 0) then true
    else decided t (pos 10 *ℤ s +ℤ pos (digits 10 xs)) (rests 10 xs)

-- 122 bits for each of 64 denominators and 7 for their count, by digits of three bits and more
unfoldable pub enough : ℕ
enough = (122 * 64 + 7) / 3

-- the law: so many digits decide exactly
abbrev pub SumLaw : Type 0
SumLaw = (xs : List Summand) (limit : ℕ) → All IsSummand xs → length xs ≤ 64 →
    decided enough (pos (digits 1 xs) -ℤ pos limit) (rests 1 xs) ≡ is_at_most (sum_of xs) (whole (pos limit))
