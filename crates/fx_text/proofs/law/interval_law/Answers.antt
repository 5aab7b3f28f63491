use Rattle.fx_text.proofs.DyadicLaws.{interval_takes, interval_again}
use Rattle.fx_text.proofs.law.interval_law.Goals as goal

pub returns : goal.returns
returns c = record { takes = interval_takes; again = interval_again }
