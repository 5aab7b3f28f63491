use Rattle.fx_model.specs.Machine.{Floor}
use Rattle.fx_lanes.proofs.Products as products
use Rattle.fx_lanes.proofs.narrow.NarrowLanesSideBySide.mul_shift.Goals as goal

pub narrowed-requires : goal.narrowed-requires
narrowed-requires g c =
    products.products_fit Floor c.args.s c.self.view_is c.other.view_is c.self.invariant c.other.invariant c.times.ensures
    c.lowered.ensures.lowered c.requires.fits c.requires.room.most

pub invariant_of-result : goal.invariant_of-result
invariant_of-result g c =
    (products.products_narrowed Floor c.args.s c.self.view_is c.other.view_is c.self.invariant c.other.invariant
    c.times.ensures c.lowered.ensures.lowered c.requires.fits c.narrowed.ensures).are

pub returns : goal.returns
returns g c =
    (products.products_narrowed Floor c.args.s c.self.view_is c.other.view_is c.self.invariant c.other.invariant
    c.times.ensures c.lowered.ensures.lowered c.requires.fits c.narrowed.ensures).is
