use Rattle.fx_lanes.proofs.Lanewise.{nearest_is}
use Rattle.fx_lanes.proofs.wide.WideLanesSideBySide.copy_near.Goals as goal

pub invariant_of-result : goal.invariant_of-result
invariant_of-result g c = (nearest_is c.args.s c.self.view_is c.self.invariant c.nearest.ensures c.requires.fits).are

pub returns : goal.returns
returns g c = (nearest_is c.args.s c.self.view_is c.self.invariant c.nearest.ensures c.requires.fits).is
