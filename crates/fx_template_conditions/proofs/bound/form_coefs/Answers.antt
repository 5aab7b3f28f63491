use Rattle.std.proofs.Common.{◌≡◌, ℕ, ◌+◌, ◌<◌, length, subst, arith, rules}
use Rattle.fx_rational.specs.Dyadic.{Dyadic, zero_dyadic}
use Rattle.fx_model.specs.Tree.{at}
use Rattle.fx_inequalities.specs.Formula.{Num}
use Rattle.fx_formulas.specs.Judging.{Forms}
use Rattle.fx_formulas.proofs.Shorts.{short_within}
use Rattle.fx_template_conditions.proofs.Shares.{all_formed, set_formed}
use Rattle.fx_template_conditions.proofs.bound.form_coefs.Goals as goal

pub loop-j-preserved : goal.loop-j-preserved
loop-j-preserved c =
    let j = c.loop-j.j in let xs = c.args.form.now.coefs in let f = λ (k : ℕ). Num (at zero_dyadic xs k) in
    let room : j < length c.loop-j.coefs = search rules in
    let value : c.coef_at.result ≡ at zero_dyadic xs j = grind (arith, c.coef_at.ensures) in
    let short = short_within 192 (omega arith) (c.requires.coefs j) in
    set_formed c.loop-j.coefs j f c.number.result c.loop-j.invariant room
    (subst (λ (d : Dyadic). Forms c.number.result (Num d)) value c.number.ensures) short

pub returns : goal.returns
returns c =
    let s = c.args.side.now in let f = λ (k : ℕ). Num (at zero_dyadic c.args.form.now.coefs k) in
    let all : c.loop-j.j ≡ s.inputs + s.states = omega (arith, c.variables-j-end.ensures.value) in
    all_formed c.loop-j.coefs c.loop-j.j (s.inputs + s.states) f all c.loop-j.invariant
