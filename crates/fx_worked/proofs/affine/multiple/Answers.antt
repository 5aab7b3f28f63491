use Rattle.std.proofs.Common.{arith}
use Rattle.fx_template.proofs.Short.{near_scaled}
use Rattle.fx_worked.proofs.affine.multiple.Goals as goal

pub aff_scale-requires : goal.aff_scale-requires
aff_scale-requires g c =
    near_scaled _ c.aff_places.result _ c.dyadic.result c.aff_places.ensures (omega arith) c.dyadic.ensures
