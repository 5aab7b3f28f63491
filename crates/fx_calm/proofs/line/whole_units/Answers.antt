use Rattle.std.proofs.Common.{◌∙◌, to_z, of_z, ap}
use Rattle.std.specs.Int.{w128}
use Rattle.std.proofs.lemmas.Int.{to_z-of_z}
use Rattle.fx_outward.specs.Grid.{lowest_dyadic}
use Rattle.fx_calm.proofs.Units.{ceil_one}
use Rattle.fx_calm.proofs.line.whole_units.Goals as goal

pub returns : goal.returns
returns c = c.up_quotient.ensures
    ∙ ap (λ z. lowest_dyadic z c.args.f) (ceil_one (to_z w128 (of_z w128 c.args.m))
    ∙ to_z-of_z w128 c.args.m c.ranges.m)
