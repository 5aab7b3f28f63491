use Rattle.std.proofs.lemmas.Int.{to_z-of_z}
use Rattle.fx_rational.proofs.Fits.{some_fits}
use Rattle.fx_num.proofs.shift.subtract_fits.Goals as goal

pub returns : goal.returns
returns c = let f = c.ranges.a in let g = c.ranges.b in some_fits _ _ (simp to_z-of_z at c.checked_sub.ensures)
