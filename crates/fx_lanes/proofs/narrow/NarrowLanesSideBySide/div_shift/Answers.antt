use Rattle.fx_lanes.proofs.Products as products
use Rattle.fx_lanes.proofs.narrow.NarrowLanesSideBySide.div_shift.Goals as goal

pub by-requires : goal.by-requires
by-requires g c =
    products.can_divide g.row.B c.args.s c.requires.room.most c.self.view_is c.other.view_is c.widely_raised.ensures
    c.requires.fits

pub narrowed-requires : goal.narrowed-requires
narrowed-requires g c =
    products.quotients_fit c.args.s c.self.view_is c.other.view_is c.self.invariant c.other.invariant
    c.widely_raised.ensures c.by.ensures c.requires.fits c.requires.room.most

pub invariant_of-result : goal.invariant_of-result
invariant_of-result g c =
    (products.quotients_narrowed c.args.s c.self.view_is c.other.view_is c.self.invariant c.other.invariant
    c.widely_raised.ensures c.by.ensures c.requires.fits c.narrowed.ensures).are

pub returns : goal.returns
returns g c =
    (products.quotients_narrowed c.args.s c.self.view_is c.other.view_is c.self.invariant c.other.invariant
    c.widely_raised.ensures c.by.ensures c.requires.fits c.narrowed.ensures).some
