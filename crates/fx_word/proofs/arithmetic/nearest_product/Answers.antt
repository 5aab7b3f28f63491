use Rattle.std.proofs.Common.{◌*◌, ◌≤◌, arith}
use Rattle.std.specs.Int.{w64, w128}
use Rattle.std.proofs.lemmas.Int.{to_z-of_z}
use Rattle.fx_word.proofs.Fits.{fits_64, fits_128}
use Rattle.fx_word.proofs.arithmetic.nearest_product.Goals as goal

pub nearest_with_room_in_64-requires-clause-room : goal.nearest_with_room_in_64-requires-clause-room
nearest_with_room_in_64-requires-clause-room g c =
    let r = c.requires in let most = r.width.most in let narrow = c.if-this-le-NARROW.true in
    let p = c.product_in_64.ensures in
    let small : 2 * g.row.B ≤ 64 = omega arith in
    rw (
      to_z-of_z w64 _ (record { sfits = c.product_in_64.type_inv }),
      p.value,
    ) (fits_64 (2 * g.row.B) _ small (p.room c.args.s r.shift))

pub nearest_with_room_in_128-requires-clause-room : goal.nearest_with_room_in_128-requires-clause-room
nearest_with_room_in_128-requires-clause-room g c =
    let r = c.requires in let most = r.width.most in let p = c.product_in_128.ensures in
    let small : 2 * g.row.B ≤ 128 = omega arith in
    rw (
      to_z-of_z w128 _ (record { sfits = c.product_in_128.type_inv }),
      p.value,
    ) (fits_128 (2 * g.row.B) _ small (p.room c.args.s r.shift))
