use Rattle.std.proofs.Common.{◌-◌, take, length, arith}
use Rattle.std.proofs.lemmas.List.{length-take-le}
use Rattle.fx_base.proofs.Buffers.{put-front}
use Rattle.fx_base.proofs.held.read_behind.Goals as goal

pub returns-clause-more : goal.returns-clause-more
returns-clause-more g c =
    let n = c.in_ok-count.count in
    let part = c.read.new.buf in
    let enough = c.in_ok-count.ensures.bound.0 in (
      take n part,
      c.in_ok-count.ensures.bytes.0,
      put-front c.args.block.now part c.args.at (length c.args.block.now - c.args.at) n (omega arith) enough,
      length-take-le n part enough,
    )
