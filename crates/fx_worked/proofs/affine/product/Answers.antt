use Rattle.std.proofs.Common.{arith}
use Rattle.fx_template.proofs.Short.{near_product}
use Rattle.fx_worked.proofs.affine.product.Goals as goal

pub aff_mul-requires-clause-near : goal.aff_mul-requires-clause-near
aff_mul-requires-clause-near g c =
    near_product _ c.aff_places.result c.aff_places-2.result _ _ _ _ c.aff_places.ensures c.aff_places-2.ensures
    (omega arith) (omega arith) c.interval.ensures c.interval-2.ensures c.dyadic.ensures c.dyadic-2.ensures
