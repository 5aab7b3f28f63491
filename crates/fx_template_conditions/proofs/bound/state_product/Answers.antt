use Rattle.std.proofs.Common.{ℕ, ◌+◌, None, subst, sym, arith}
use Rattle.fx_model.specs.Tree.{at}
use Rattle.fx_inequalities.specs.Formula.{point}
use Rattle.fx_formulas.specs.Judging.{Forms}
use Rattle.fx_formulas.proofs.Shorts.{short_within, short_point}
use Rattle.fx_conditions.proofs.Shorts.{bound_short}
use Rattle.fx_template_conditions.specs.CertificateSide.{templates_on}
use Rattle.fx_template_conditions.proofs.bound.state_product.Goals as goal

pub returns : goal.returns
returns c = λ f left short.
    let k = c.args.k in let s = c.args.side.now in
    let at_place =
    subst (λ (i : ℕ). Forms (at None c.args.lefts.now (i + k)) (f k)) (sym c.inputs.ensures)
    (left k c.requires.within) in
    let number = subst (λ o. Forms o (f k)) (sym c.coefficient-left.ensures) at_place in
    c.times.ensures (point (f k)) ((templates_on s).bound k) (short_point (short_within 512 (omega arith) short))
    (bound_short s.templates c.keeps.ensures.templates s.states k) (c.point.ensures (f k) number) c.bound.ensures
