use Rattle.std.proofs.Common.{subst, sym, arith}
use Rattle.fx_inequalities.specs.Formula.{point}
use Rattle.fx_formulas.specs.Judging.{Forms}
use Rattle.fx_formulas.proofs.Shorts.{short_within, short_point}
use Rattle.fx_conditions.proofs.Shorts.{side_short}
use Rattle.fx_template_conditions.specs.CertificateSide.{spans_on}
use Rattle.fx_template_conditions.proofs.bound.variable_product.Goals as goal

pub returns : goal.returns
returns c = λ n f lt formed.
    let j = c.args.j in let s = c.args.side.now in
    let number = subst (λ o. Forms o (f j)) (sym c.coefficient.ensures) (formed.each j lt) in
    c.times.ensures (point (f j)) (spans_on s j) (short_point (short_within 512 (omega arith) (formed.short j lt)))
    (side_short s.which s.lines c.keeps.ensures.lines j) (c.point.ensures (f j) number) c.variable.ensures
