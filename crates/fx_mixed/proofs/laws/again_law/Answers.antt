use Rattle.fx_mixed.proofs.Places.{packed_again}
use Rattle.fx_mixed.proofs.laws.again_law.Goals as goal

pub returns : goal.returns
returns c = packed_again c.wrapped_law.ensures
