use Rattle.std.proofs.Common.{◌+◌, ◌/◌, ◌∙◌}
use Rattle.fx_calm.proofs.Sizes.{units_code}
use Rattle.fx_calm.proofs.magnitude.units.Goals as goal

pub returns : goal.returns
returns c = (λ i. (c.raised.ensures.value i + c.from.ensures i) / c.from-2.ensures i)
    ∙ units_code c.args.f c.args.x.top c.args.x.bottom c.requires.size.some
