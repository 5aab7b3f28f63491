use Rattle.fx_text.proofs.DyadicLaws.{dyadic_takes, dyadic_again}
use Rattle.fx_text.proofs.law.dyadic_law.Goals as goal

pub returns : goal.returns
returns c = record { takes = dyadic_takes; again = dyadic_again }
