use Rattle.std.proofs.Common.{◌≡◌, take, map}
use Rattle.fx_expr.specs.Parts.{temp_of}
use Rattle.fx_expr.proofs.function.copy_temps.Given as goal

abbrev pub invariant-loop-temp : goal.invariant-loop-temp
invariant-loop-temp l = map temp_of l.copies.items ≡ map temp_of (take l.temp-index l.temps)
