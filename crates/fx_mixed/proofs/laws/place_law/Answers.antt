use Rattle.fx_mixed.proofs.Places.{places}
use Rattle.fx_mixed.proofs.laws.place_law.Goals as goal

pub returns : goal.returns
returns c = places c.wrapped_law.ensures
