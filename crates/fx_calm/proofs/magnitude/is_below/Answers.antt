use Rattle.std.proofs.Common.{leb, ◌∙◌}
use Rattle.fx_weight.proofs.PowerTests.{below_whole}
use Rattle.fx_calm.proofs.magnitude.is_below.Goals as goal

pub returns : goal.returns
returns c = (λ i. leb (c.from.ensures i) (c.raised.ensures.value i))
    ∙ below_whole c.args.x.top c.args.x.bottom c.args.w c.requires.size.some
