use Rattle.std.proofs.Common.{length, rules}
use Rattle.fx_mixed.proofs.Loops.{byte_more}
use Rattle.fx_mixed.proofs.bytes.put_bytes.Goals as goal

pub loop-k-preserved : goal.loop-k-preserved
loop-k-preserved c =
    byte_more c.loop-k.bytes (length c.args.bytes.now) c.loop-k.k c.loop-k.rest c.args.number c.loop-k.invariant.0
    (search rules) c.loop-k.invariant.1
