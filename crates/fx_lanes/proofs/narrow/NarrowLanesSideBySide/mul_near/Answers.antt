use Rattle.fx_model.specs.Machine.{Nearest}
use Rattle.fx_lanes.proofs.Products as products
use Rattle.fx_lanes.proofs.narrow.NarrowLanesSideBySide.mul_near.Goals as goal

pub nearest_with_room-requires-clause-room : goal.nearest_with_room-requires-clause-room
nearest_with_room-requires-clause-room g c =
    products.room c.args.s c.requires.room c.requires.shift c.times.ensures c.self.invariant c.other.invariant

pub narrowed-requires : goal.narrowed-requires
narrowed-requires g c =
    products.products_fit Nearest c.args.s c.self.view_is c.other.view_is c.self.invariant c.other.invariant c.times.ensures
    c.nearest_with_room.ensures c.requires.fits c.requires.room.most

pub invariant_of-result : goal.invariant_of-result
invariant_of-result g c =
    (products.products_narrowed Nearest c.args.s c.self.view_is c.other.view_is c.self.invariant c.other.invariant
    c.times.ensures c.nearest_with_room.ensures c.requires.fits c.narrowed.ensures).are

pub returns : goal.returns
returns g c =
    (products.products_narrowed Nearest c.args.s c.self.view_is c.other.view_is c.self.invariant c.other.invariant
    c.times.ensures c.nearest_with_room.ensures c.requires.fits c.narrowed.ensures).is
