use Rattle.fx_model.specs.Machine.{Nearest}
use Rattle.fx_lanes.proofs.Filled.{are_numbers, array_products, arrays, multiplied_is}
use Rattle.fx_lanes.proofs.Lanewise.{gives_again}
use Rattle.fx_lanes.proofs.wide.WideLanesSideBySide.mul_near.Goals as goal

pub nearest_products-requires : goal.nearest_products-requires
nearest_products-requires g c =
    let r = c.requires in
    let a =
    arrays c.array-v.ensures c.array-w.ensures c.self.view_is c.other.view_is c.self.invariant c.other.invariant in
    let fits = array_products a c.args.s Nearest r.fits in
    record { width = r.room; left = a.left; right = a.right; some = r.some; shift = r.shift; fits = fits }

pub of-requires : goal.of-requires
of-requires g c =
    let a =
    arrays c.array-v.ensures c.array-w.ensures c.self.view_is c.other.view_is c.self.invariant c.other.invariant in
    are_numbers c.requires.room.most (multiplied_is a c.args.s Nearest c.nearest_products.ensures c.requires.fits).are

pub invariant_of-result : goal.invariant_of-result
invariant_of-result g c =
    let a =
    arrays c.array-v.ensures c.array-w.ensures c.self.view_is c.other.view_is c.self.invariant c.other.invariant in
    (gives_again c.of.ensures (multiplied_is a c.args.s Nearest c.nearest_products.ensures c.requires.fits)).are

pub returns : goal.returns
returns g c =
    let a =
    arrays c.array-v.ensures c.array-w.ensures c.self.view_is c.other.view_is c.self.invariant c.other.invariant in
    (gives_again c.of.ensures (multiplied_is a c.args.s Nearest c.nearest_products.ensures c.requires.fits)).is
