use Rattle.std.proofs.Common.{◌≡◌, drop}
use Rattle.fx_rows.specs.Line.{pieces_left}
use Rattle.fx_rows.proofs.pieces.skip_pieces.Given as goal

abbrev pub invariant-loop-k : goal.invariant-loop-k
invariant-loop-k l = pieces_left l.left ≡ drop l.k (pieces_left l.rest)
