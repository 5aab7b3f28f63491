use Rattle.std.proofs.Common.{arith}
use Rattle.std.proofs.lemmas.Int.{ints}
use Rattle.fx_lowering.proofs.code.quotient_places.Goals as goal

pub returns : goal.returns
returns c = omega (arith, ints)
