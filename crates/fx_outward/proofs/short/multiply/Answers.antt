use Rattle.std.proofs.Common.{◌*ℤ◌, ◌∙◌, ℤ, to_z, of_z, ap₂}
use Rattle.std.specs.Int.{w128}
use Rattle.std.proofs.lemmas.Int.{fits_signed_from_abs}
use Rattle.fx_outward.proofs.Casts.{back}
use Rattle.fx_outward.proofs.Shorts.{product_few}
use Rattle.fx_outward.proofs.short.multiply.Goals as goal

pub returns : goal.returns
returns c =
    ap₂ (λ (x y : ℤ). to_z w128 (of_z w128 (x *ℤ y))) (back c.ranges.m) (back c.ranges.n)
    ∙ back (fits_signed_from_abs w128 (c.args.m *ℤ c.args.n) (product_few c.args.m c.args.n c.requires.m c.requires.n))
