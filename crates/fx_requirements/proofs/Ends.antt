-- Which of two decimals is the greater, over one denominator.
use Rattle.std.proofs.Common.{◌≡◌, ◌^◌, pos, ◌*ℤ◌, refl}
use Rattle.std.specs.Prelude.{int_le}
use Rattle.fx_fraction.proofs.Values.{tens}
use Rattle.fx_rational.specs.Rational.{over, is_at_most}
use Rattle.fx_rational.specs.Decimal.{Decimal, decimal_value}

pub at_most_is : (x y : Decimal) →
    is_at_most (decimal_value x) (decimal_value y) ≡ int_le (x.a *ℤ pos (10 ^ y.b)) (y.a *ℤ pos (10 ^ x.b))
unfolding is_at_most decimal_value over
at_most_is x y = rw (tens x.b, tens y.b) refl
