use Rattle.fx_base.proofs.Cutting.{first-feed}
use Rattle.fx_base.proofs.cuts.line_end.Goals as goal

pub returns : goal.returns
returns c = first-feed c.args.bytes.now c.memchr.result c.memchr.ensures
