use Rattle.fx_rational.proofs.LowestTerms.{gcd_is}
use Rattle.fx_rational.proofs.gcd_laws.gcd_law.Goals as goal

pub returns : goal.returns
returns c = gcd_is
