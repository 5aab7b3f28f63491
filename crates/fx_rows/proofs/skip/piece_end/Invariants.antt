use Rattle.fx_rows.proofs.Passed.{PassedTo}
use Rattle.fx_rows.proofs.skip.piece_end.Given as goal

abbrev pub invariant-loop-i : goal.invariant-loop-i
invariant-loop-i l = PassedTo l.text l.i
