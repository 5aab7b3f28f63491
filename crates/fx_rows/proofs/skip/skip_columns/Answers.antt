use Rattle.std.proofs.Common.{◌∙◌}
use Rattle.fx_rows.specs.Line.{pieces, pieces_left}
use Rattle.fx_rows.proofs.Cuts.{one_further}
use Rattle.fx_rows.proofs.skip.skip_columns.Goals as goal

pub loop-k-preserved : goal.loop-k-preserved
loop-k-preserved c = record {
  pieces =
      one_further (pieces_left c.args.rest)
      (pieces c.loop-k.left.now) _ _ c.loop-k.k c.in_ok-left-2.ensures.pieces c.loop-k.invariant.pieces;
  special = c.in_ok-left-2.ensures.special ∙ c.loop-k.invariant.special;
}
