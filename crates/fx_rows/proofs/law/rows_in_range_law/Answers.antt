use Rattle.fx_rows.proofs.GivenInRange.{all_in_range}
use Rattle.fx_rows.proofs.law.rows_in_range_law.Goals as goal

pub returns : goal.returns
returns c = all_in_range
