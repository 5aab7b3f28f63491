use Rattle.std.proofs.Common.{◌≡◌, ◌++◌, map, take, length}
use Rattle.fx_rows.specs.Line.{pieces, pieces_left}
use Rattle.fx_rows.proofs.pieces.Pieces.of.Given as goal

abbrev pub invariant-loop-i : goal.invariant-loop-i
invariant-loop-i l = record {
  size : length l.first ≡ 64;
  pieces : map (λ f. f.now) (take l.i l.first) ++ pieces_left l.rest ≡ pieces l.text;
}
