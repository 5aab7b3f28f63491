use Rattle.fx_inequalities.specs.Formula.{Product}
use Rattle.fx_formulas.proofs.Judged.{product_forms, short_number}
use Rattle.fx_formulas.proofs.formula.is_product_at_least.Goals as goal

pub returns : goal.returns
returns c =
    λ f g h s t i j k. c.is_at_most.ensures h (Product f g) k
    (product_forms c.near_product.result c.args.x c.args.y f g
    (c.near_product.ensures (short_number i s) (short_number j t)) i j)
