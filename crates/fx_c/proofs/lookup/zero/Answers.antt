use Rattle.std.proofs.Common.{refl}
use Rattle.fx_rational.specs.Rational.{over}
use Rattle.fx_rational.specs.Decimal.{decimal_value}
use Rattle.fx_c.proofs.lookup.zero.Goals as goal

pub returns : goal.returns
unfolding decimal_value over
returns c = refl
