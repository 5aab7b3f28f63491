-- Powers of two, as whole numbers and as rationals.
use Rattle.std.proofs.Common.{◌≡◌, ℕ, zero, suc, ◌^◌, ◌<◌, ◌≤◌, true, ℤ, pos, negsuc, neg_ℤ, refl, ap, arith, pow_pos, lit<}
use Rattle.std.proofs.Math.Nat.{pow-le-pow_right}
use Rattle.std.proofs.lemmas.Int.{ints}
use Rattle.fx_rational.specs.Rational.{Rational, over, Equal, AtMost}
use Rattle.fx_rational.specs.Dyadic.{dyadic_value, unit_dyadic}
use Rattle.fx_rational.proofs.Laws.{Nonneg, nonneg_from}
use Rattle.fx_rational.proofs.Powers.{power, unit, over_one}
use Rattle.fx_rational.proofs.Tests.{at_most_true, at_most_holds}
use Rattle.fx_inequalities.specs.Formula.{Num, formula_value}
use Rattle.fx_plan_laws.specs.Powers.{power_dyadic, power_value, is_below_power}

pub power_more : {a b : ℕ} → a ≤ b → 2 ^ a ≤ 2 ^ b
power_more l = pow-le-pow_right {n = 2} (lit< tt) l

pub power_small : {k : ℕ} → k ≤ 126 → 2 ^ k < 2 ^ 127
power_small {k} l = let m = power_more {a = k} {b = 126} l in omega (arith, m)

-- ---- 2^v as a rational
pub power_value_is : (v : ℤ) → dyadic_value (power_dyadic v) ≡ power_value v
unfolding power_value
power_value_is v = refl

pub number_value : (v : ℤ) → formula_value (Num (power_dyadic v)) ≡ power_value v
unfolding power_value formula_value
number_value v = refl

pub whole_value_is : (w : ℕ) → Equal (power_value (pos w)) (power w)
unfolding power_value dyadic_value
whole_value_is w = over_one (pos (2 ^ w))

pub unit_is : (f : ℤ) → unit_dyadic f ≡ power_dyadic (neg_ℤ f)
unit_is (pos zero) = refl
unit_is (pos (suc f)) = refl
unit_is (negsuc f) = refl

pub unit_value_is : (f : ℤ) → unit f ≡ power_value (neg_ℤ f)
unfolding unit power_value
unit_value_is f = ap dyadic_value (unit_is f)

pub power_nonneg : (v : ℤ) → Nonneg (power_value v)
unfolding power_value dyadic_value over
power_nonneg (pos v) = nonneg_from (let p = pow_pos v in omega (arith, ints))
power_nonneg (negsuc v) = nonneg_from (omega (arith, ints))

-- ---- the test
pub below_power : {x : Rational} (v : ℤ) → is_below_power x v ≡ true → AtMost x (power_value v)
below_power {x} v e = at_most_true x (power_value v) e

pub test_power : (x : Rational) (v : ℤ) → AtMost x (power_value v) → is_below_power x v ≡ true
test_power x v h = at_most_holds h
