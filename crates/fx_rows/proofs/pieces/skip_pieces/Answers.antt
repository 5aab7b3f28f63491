use Rattle.std.proofs.Common.{arith}
use Rattle.fx_rows.specs.Line.{pieces_left}
use Rattle.fx_rows.proofs.Cuts.{one_further, none_further}
use Rattle.fx_rows.proofs.pieces.skip_pieces.Goals as goal

pub returns-in_default : goal.returns-in_default
returns-in_default c =
    none_further (pieces_left c.args.rest) (pieces_left c.loop-k.left) c.loop-k.k c.args.count
    (omega arith) c.in_default.ensures c.loop-k.invariant

pub loop-k-preserved : goal.loop-k-preserved
loop-k-preserved c =
    one_further (pieces_left c.args.rest)
    (pieces_left c.loop-k.left) _ _ c.loop-k.k c.in-Some.ensures c.loop-k.invariant
