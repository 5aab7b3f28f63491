use Rattle.fx_rational.proofs.LowestTerms.{one_spelling}
use Rattle.fx_rational.proofs.gcd_laws.one_spelling_law.Goals as goal

pub returns : goal.returns
returns c = one_spelling
