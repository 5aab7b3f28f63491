use Rattle.std.proofs.Common.{length, arith, rules}
use Rattle.fx_template.specs.AffineView.{linear_form}
use Rattle.fx_template.specs.Combining.{product_form}
use Rattle.fx_template.proofs.Fronts.{fault_told}
use Rattle.fx_template.proofs.combine.aff_mul.Goals as goal

pub returns-in_err-append : goal.returns-in_err-append
returns-in_err-append c =
    let a = linear_form c.args.a.now in let b = linear_form c.args.b.now in
    let f = product_form a b c.args.ranges c.args.centres in let j = c.loop-j.j in
    fault_told c.from_residual.result c.in_err-append.field-0.0 c.loop-j.coefs
    (length a.coefs) j f c.from_residual.ensures.1 c.loop-j.invariant (omega arith)
    (c.in_err-append.ensures (f.coef j) (search rules))
