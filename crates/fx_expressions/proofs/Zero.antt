-- The literal of the decimal zero is the whole number zero.
use Rattle.std.proofs.Common.{◌≡◌, pos, refl}
use Rattle.fx_rational.specs.Gcd.{gcd}
use Rattle.fx_rational.specs.Rational.{over, lowest, whole}
use Rattle.fx_rational.specs.Decimal.{decimal_value}

pub zero_is : lowest (decimal_value (record { a = pos 0; b = 0 })) ≡ whole (pos 0)
unfolding lowest decimal_value over gcd
zero_is = refl
