use Rattle.std.proofs.Common.{Option, sym, subst, arith}
use Rattle.fx_rational.specs.Dyadic.{Dyadic, zero_dyadic}
use Rattle.fx_model.specs.Tree.{at}
use Rattle.fx_inequalities.specs.Formula.{Num, Product}
use Rattle.fx_formulas.specs.Judging.{Forms}
use Rattle.fx_formulas.proofs.Shorts.{short_within}
use Rattle.fx_template_conditions.proofs.bound.left_of.Goals as goal

pub returns : goal.returns
returns c = λ f h.
    let g = Num (at zero_dyadic c.args.template.now c.args.k) in
    let coef = subst (λ (d : Dyadic). Forms c.number.result (Num d)) c.coef_at.ensures c.number.ensures in
    c.difference.ensures f (Product (Num c.args.times) g)
    (subst (λ (o : Option Dyadic). Forms o f) (sym c.coefficient.ensures) h)
    (c.scaled_number-product.ensures g (short_within 512 (omega arith) c.requires.template) coef)
