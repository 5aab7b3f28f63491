use Rattle.std.proofs.Common.{◌∙◌, arith}
use Rattle.std.proofs.Math.ListN.{length-set}
use Rattle.fx_rows.specs.Line.{pieces_left}
use Rattle.fx_rows.proofs.Cuts.{kept_more}
use Rattle.fx_rows.proofs.pieces.Pieces.of.Goals as goal

pub loop-i-preserved : goal.loop-i-preserved
loop-i-preserved c = record {
  size = length-set c.loop-i.first c.loop-i.i c.in-Some.piece ∙ c.loop-i.invariant.size;
  pieces =
      kept_more c.loop-i.first c.loop-i.i c.in-Some.piece (pieces_left c.loop-i.rest) (pieces_left c.in-Some.others) _
      (omega arith) c.in-Some.ensures c.loop-i.invariant.pieces;
}
