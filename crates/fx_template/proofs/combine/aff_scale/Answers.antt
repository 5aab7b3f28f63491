use Rattle.std.proofs.Common.{length, arith, rules}
use Rattle.fx_inequalities.specs.Formula.{Num, Product}
use Rattle.fx_template.specs.AffineView.{linear_form}
use Rattle.fx_template.specs.Combining.{coef_in, scaled_form}
use Rattle.fx_template.proofs.Fronts.{fault_told}
use Rattle.fx_template.proofs.combine.aff_scale.Goals as goal

pub returns-in_err-append : goal.returns-in_err-append
returns-in_err-append c =
    let a = linear_form c.args.a.now in let m = c.args.m in let j = c.loop-j.j in
    fault_told c.from_residual.result c.in_err-append.field-0.0 c.loop-j.coefs (length a.coefs) j
    (scaled_form a m) c.from_residual.ensures.1 c.loop-j.invariant (omega arith)
    (c.in_err-append.ensures (Product (Num m) (coef_in a j)) (search rules))
