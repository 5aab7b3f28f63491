use Rattle.std.proofs.Common.{sym, subst}
use Rattle.std.specs.Int.{w64}
use Rattle.fx_lanes.specs.WordsSideBySide.{AreNumbers}
use Rattle.fx_lanes.proofs.Operators as operators
use Rattle.fx_lanes.proofs.vectors.Numbers64.of.Goals as goal

pub invariant_of-result : goal.invariant_of-result
invariant_of-result c = subst (AreNumbers w64) (sym (operators.taken_out w64 c.args.numbers c.requires.fits)) c.requires

pub returns : goal.returns
returns c = operators.taken_out w64 c.args.numbers c.requires.fits
