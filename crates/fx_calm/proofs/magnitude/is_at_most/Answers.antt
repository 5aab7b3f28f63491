use Rattle.std.proofs.Common.{leb, ◌*◌, ◌∙◌}
use Rattle.fx_calm.proofs.Sizes.{cross_test}
use Rattle.fx_calm.proofs.magnitude.is_at_most.Goals as goal

pub returns : goal.returns
returns c = (λ i. leb (c.from.ensures i * c.from-2.ensures i) (c.from-3.ensures i * c.from-4.ensures i))
    ∙ cross_test c.args.x.top c.args.x.bottom c.args.y.top c.args.y.bottom c.requires.left.some c.requires.right.some
