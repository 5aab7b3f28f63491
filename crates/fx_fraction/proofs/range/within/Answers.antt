use Rattle.std.proofs.Common.{◌∙◌}
use Rattle.fx_fraction.proofs.range.within.Goals as goal

pub returns : goal.returns
returns c = c.contains.ensures.value ∙ c.new.ensures _ c.contains.ensures.places
