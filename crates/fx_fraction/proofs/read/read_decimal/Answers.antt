use Rattle.std.proofs.Common.{sym}
use Rattle.fx_fraction.proofs.read.read_decimal.Goals as goal

pub returns-in-Some : goal.returns-in-Some
returns-in-Some c = sym c.in-Some.ensures
