use Rattle.std.proofs.Common.{length, arith, rules}
use Rattle.fx_inequalities.specs.Formula.{Sum, span}
use Rattle.fx_template.specs.AffineView.{linear_form}
use Rattle.fx_template.specs.Combining.{coef_in, sum_form}
use Rattle.fx_template.proofs.Fronts.{fault_told}
use Rattle.fx_template.proofs.combine.aff_add.Goals as goal

pub returns-in_err-append : goal.returns-in_err-append
returns-in_err-append c =
    let a = linear_form c.args.a.now in let b = linear_form c.args.b.now in let j = c.loop-j.j in
    fault_told c.from_residual.result c.in_err-append.field-0.0 c.loop-j.coefs (length a.coefs) j
    (sum_form a b) c.from_residual.ensures.1 c.loop-j.invariant (omega arith)
    (c.in_err-append.ensures (Sum (coef_in a j) (coef_in b j)) (search rules))

pub returns : goal.returns
returns c =
    let a = linear_form c.args.a.now in let b = linear_form c.args.b.now in let f = sum_form a b in
    c.with_rest.ensures (length a.coefs) f (search rules) (search rules)
    (c.plus.ensures (span a.rest) (span b.rest) c.interval.ensures c.interval-2.ensures)
