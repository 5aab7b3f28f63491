use Rattle.std.proofs.Common.{◌*ℤ◌, FitsSigned}
use Rattle.std.specs.Int.{w128}
use Rattle.std.proofs.lemmas.Int.{to_z-of_z}
use Rattle.fx_fraction.proofs.Terms.{product_fits, product_small}
use Rattle.fx_fraction.proofs.arithmetic.product.Goals as goal

pub returns-clause-value : goal.returns-clause-value
returns-clause-value c =
    let fx = c.ranges.x in let fy = c.ranges.y in
    let f : FitsSigned w128 (c.args.x *ℤ c.args.y) = product_fits c.args.x c.args.y c.requires.left c.requires.right in
    simp to_z-of_z

pub returns-clause-small : goal.returns-clause-small
returns-clause-small c =
    let fx = c.ranges.x in let fy = c.ranges.y in
    let f : FitsSigned w128 (c.args.x *ℤ c.args.y) = product_fits c.args.x c.args.y c.requires.left c.requires.right in
    simp to_z-of_z (product_small c.args.x c.args.y c.requires.left c.requires.right)
