use Rattle.fx_mixed.proofs.Complements.{again}
use Rattle.fx_mixed.proofs.laws.packed_law.Goals as goal

pub returns : goal.returns
returns c = again c.wrapped_law.ensures
